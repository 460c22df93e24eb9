-- The pass that decides S1 to S5 and compares the sheet: its exits. What it says of the pairs counts where the table is right.
use Rattle.std.specs.Prelude.{◌≡◌, refl, Bool, true, false, not, ◌&&◌, List, ℕ, ◌+◌, ◌-◌, ◌*◌, ◌/◌, ◌≤◌, ◌<◌, ltb, eqb, length, Some, None}
use Rattle.std.proofs.Math.Path.{sym}
use Rattle.std.proofs.Common.{subst, ◌∙◌, ltb-true, eqb-true}
use Rattle.std.proofs.lemmas.Bool.{false≢true, not-true, not-false}
use Rattle.std.proofs.Math.Decide.{ℕ_discrete}
use native.Mathlib.Omega.{arith}
use Rattle.loops.specs.Loops.{all}
use Rattle.loops.specs.Laws.Every.{all_of, all_at, fail_of, all_zero, all_more}
use Rattle.tables.specs.State.{none}
use Rattle.tables.specs.View.{slot_word_at, view}
use Rattle.tables.specs.Search.{is_some}
use Rattle.tables.specs.Laws.ZeroWord.{no_entry}
use Rattle.sound.specs.Clauses.{when, s5_slot, s5}
use Rattle.sound.specs.Whole.{Right}
use Rattle.sound.specs.Laws.Tests.{and_says}
use Rattle.shape.specs.Records.{slots_test, HasStructure}
use Rattle.shape.specs.Laws.Records.{slots_each}
use Rattle.sheetrules.specs.Sheet.{masks_word, lines_word, matches}
use Rattle.summing.specs.Sums.{Ranged, Adding}
use Rattle.sheetrules.specs.Bytes.{handed_sheet, pair_is, pair_matches}
use Rattle.comparing.specs.Once.{SlotsChecked, SameTo, ComparedTo}
use Rattle.sheetrules.specs.Laws.Bytes.{sheet_pairs}
use Rattle.summing.specs.declared.sums.Sums.{Sums}

-- ── slots ──
-- a slot that S5 lets pass
pub slot_ranged : (l : List ℕ) (p i : ℕ) → s5_slot l (view l).k p i ≡ true → Ranged (view l) p i
unfolding s5_slot when
slot_ranged l p i q = record { ends = λ e u. ltb-true e.start e.stop (and_says (is_some ((view l).k.area p (1 + i / 8))) (ltb e.start e.stop) (rw u at q)).1 }

module _ {l : List ℕ} {p i : ℕ} {a b : Bool} (e : a ≡ b) where
  -- a test that failed; one that passed
  pub checked_refused : not a ≡ true → SlotsChecked l p i b None
  checked_refused n = record { says = sym (not-true a n) ∙ e; sums = tt }

  pub checked_passed : {x : Sums} → not a ≡ false → Adding (view l) p i x → SlotsChecked l p i b (Some x)
  checked_passed n h = record { says = sym (not-false a n) ∙ e; sums = h }

-- one test failed, so all together fail; and the walk has ended
pub checked_fails : {l : List ℕ} {p i : ℕ} {a b : Bool} → false ≡ a → (a ≡ false → b ≡ false) → SlotsChecked l p i b None
checked_fails h k = record { says = sym (k (sym h)); sums = tt }

-- all passed
pub checked_all : {l : List ℕ} {p i : ℕ} {b : Bool} {x : Sums} → b ≡ true → Adding (view l) p i x → SlotsChecked l p i b (Some x)
checked_all q h = record { says = sym q; sums = h }

-- slot i - 1 is one of structure j
pub structure_of_law : {l : List ℕ} {p j : ℕ} (i : ℕ) → HasStructure l p j → (i - 1) / 8 ≡ j → HasStructure l p ((i - 1) / 8)
structure_of_law i h z = record { there = rw z h.there }

-- slots are looked at from the last one of a structure down, structures from the last one down
module _ (l : List ℕ) (p : ℕ) where
  pub record SlotsFrom (j i : ℕ) : Type 0 where
    pub within : 8 * j ≤ i
    pub below : i ≤ 8 * j + 8
    pub pass : (k : ℕ) → i ≤ k → k < 8 * j + 8 → s5_slot l (view l).k p k ≡ true

  pub slots_start : (j : ℕ) → SlotsFrom j (8 * j + 8)
  slots_start j = record { within = omega arith; below = omega arith; pass = λ k a b. absurd (omega arith) }

  module _ {j i : ℕ} (inv : SlotsFrom j i) (h : 8 * j < i) where
    pub slots_on : {i' : ℕ} → i' ≡ i - 1 → s5_slot l (view l).k p (i - 1) ≡ true → SlotsFrom j i'
    slots_on {i'} e q = record { within = omega arith; below = omega (arith, inv.below); pass = λ k a b. at k a b (ℕ_discrete k (i - 1)) }
      where
        at : (k : ℕ) → i' ≤ k → k < 8 * j + 8 → Dec (k ≡ i - 1) → s5_slot l (view l).k p k ≡ true
        at k a b (yes z) = rw z q
        at k a b (no z) = inv.pass k (omega arith) b

    pub slots_fail : s5_slot l (view l).k p (i - 1) ≡ false → slots_test l (view l).k p j ≡ false
    unfolding slots_test
    slots_fail q =
        let z : 8 * j + (i - 1 - 8 * j) ≡ i - 1 = omega arith in
        fail_of 8 (λ o. s5_slot l (view l).k p (8 * j + o)) (i - 1 - 8 * j) (omega (arith, inv.below)) (rw z q)

  pub slots_done : {j i : ℕ} → SlotsFrom j i → i ≤ 8 * j → slots_test l (view l).k p j ≡ true
  unfolding slots_test
  slots_done {j} inv h = all_of 8 (λ o. s5_slot l (view l).k p (8 * j + o)) (λ o b. inv.pass (8 * j + o) (omega arith) (omega arith))

  pub record StructuresFrom (j : ℕ) : Type 0 where
    pub within : j ≤ 4
    pub pass : (k : ℕ) → j ≤ k → k < 4 → slots_test l (view l).k p k ≡ true

  pub structures_start : StructuresFrom 4
  structures_start = record { within = omega arith; pass = λ k a b. absurd (omega arith) }

  module _ {j : ℕ} (inv : StructuresFrom j) (h : 0 < j) where
    pub structures_on : {j' : ℕ} → j' ≡ j - 1 → slots_test l (view l).k p (j - 1) ≡ true → StructuresFrom j'
    structures_on {j'} e q = record { within = omega (arith, inv.within); pass = λ k a b. at k a b (ℕ_discrete k (j - 1)) }
      where
        at : (k : ℕ) → j' ≤ k → k < 4 → Dec (k ≡ j - 1) → slots_test l (view l).k p k ≡ true
        at k a b (yes z) = rw z q
        at k a b (no z) = inv.pass k (omega arith) b

    pub structures_fail : slots_test l (view l).k p (j - 1) ≡ false → s5 l (view l).k p ≡ false
    unfolding s5
    structures_fail q = sym (slots_each l (view l).k p) ∙ fail_of 4 (slots_test l (view l).k p) (j - 1) (omega (arith, inv.within)) q

  pub structures_done : {j : ℕ} → StructuresFrom j → j ≤ 0 → s5 l (view l).k p ≡ true
  unfolding s5
  structures_done inv h = sym (slots_each l (view l).k p) ∙ all_of 4 (slots_test l (view l).k p) (λ k b. inv.pass k (omega arith) b)

  -- the slots of a structure that are zero words have no entry
  pub words_empty : (j : ℕ) → all 8 (λ o. eqb (slot_word_at l p (8 * j + o)) 0) ≡ true → (k : ℕ) → 8 * j ≤ k → k < 8 * j + 8 → (view l).k.slot p k ≡ none
  words_empty j q k a b =
      let z : 8 * j + (k - 8 * j) ≡ k = omega arith in
      no_entry l p k (λ _ _. eqb-true _ 0 (rw z at (all_at 8 (λ o. eqb (slot_word_at l p (8 * j + o)) 0) q (k - 8 * j) (omega arith))))

-- ── pairs ──
and_flip : (a b : Bool) → a && b ≡ b && a
and_flip true true = refl
and_flip true false = refl
and_flip false true = refl
and_flip false false = refl

pub same_start : (b l : List ℕ) {s : Bool} → s ≡ true → SameTo b l 0 s
same_start b l e = record { so = λ _. e ∙ sym (all_zero (pair_matches b (view l))) }

-- the pair of p is compared
pub same_on : {b l : List ℕ} {p : ℕ} {s s' : Bool} {x y : ℕ} → SameTo b l p s → (Right (view l) → x ≡ masks_word (view l) p) → (Right (view l) → y ≡ lines_word (view l) p) → s' ≡ pair_is b p x y && s → SameTo b l (p + 1) s'
same_on {b} {l} {p} inv q r e = record { so = λ h. e ∙ rw (inv.so h, q h, r h) (and_flip (pair_matches b (view l) p) (all p (pair_matches b (view l)))) ∙ sym (all_more p (pair_matches b (view l))) }

pub same_up_to : {b l : List ℕ} (m n : ℕ) {s : Bool} → m ≡ n → SameTo b l m s → SameTo b l n s
same_up_to {b} {l} m n {s} e h = subst (λ (k : ℕ). SameTo b l k s) e h

-- a test that failed: nothing is left to do; one that passed
module _ {b l : List ℕ} {n : ℕ} {test s : Bool} where
  pub compared_refused : false ≡ test → ComparedTo b l n test false s
  compared_refused e = record { says = e; same = λ q. absurd (false≢true q) }

  pub compared_passed : true ≡ test → SameTo b l n s → ComparedTo b l n test true s
  compared_passed e h = record { says = e; same = λ _. h }

-- .. the same of another test that is equal
pub compared_as : {b l : List ℕ} {n : ℕ} {test other r s : Bool} → test ≡ other → ComparedTo b l n test r s → ComparedTo b l n other r s
compared_as e h = record { says = h.says ∙ e; same = h.same }

-- all pairs are compared
pub same_sheet : {b l : List ℕ} {s : Bool} → length b ≡ 256 → Right (view l) → SameTo b l 16 s → s ≡ matches (handed_sheet b) (view l)
same_sheet {b} {l} size h inv = inv.so h ∙ sheet_pairs b (view l) size
