-- The stages one after the other: each exit of the loops over the tests, and what a stage knows from those before it.
use Rattle.std.specs.Prelude.{◌≡◌, refl, Bool, true, ◌&&◌, ◌||◌, List, ℕ, ◌+◌, ◌-◌, ◌*◌, ◌/◌, ◌%◌, ◌≤◌, ◌<◌, eqb, length, Option, Some, None, is_some, unwrap_or}
use Rattle.std.proofs.Common.{ap, ◌∙◌, inl, inr, arith}
use Rattle.std.proofs.lemmas.Bool.{false≢true}
use Rattle.std.proofs.Math.Path.{sym}
use Rattle.std.proofs.Math.Bool.{false, not, and-true as and-unit}
use Rattle.std.proofs.Math.Decide.{ℕ_discrete}
use borrow.Author.Tests.{not-true, not-false, eq-eqb, ne_eqb}
use Rattle.loops.specs.Loops.{NoneBelow, all}
use Rattle.loops.specs.Laws.Every.{all_of}
use Rattle.loops.specs.Laws.Scan.{Sought, seek_law, seek_first, seek_none}
use Rattle.shapes.specs.declared.Board.{Board}
use Rattle.tables.specs.View.{view}
use Rattle.tables.specs.Search.{present}
use Rattle.tables.specs.ZeroRecord.{zero_record}
use Rattle.memory.specs.Bytes.{words_of}
use Rattle.sound.specs.Clauses.{clause_at, s3_first, s3, s6, s7_given, s7_whole, s7, s11}
use Rattle.sound.specs.Laws.Tests.{and_says, and_true}
use Rattle.sound.proofs.Laws.List.{lower_passed}
use Rattle.sound.proofs.Laws.MeansRegions.{s9_means}
use Rattle.sound.specs.Sound.{Present, S9}
use Rattle.tables.specs.Laws.View.{slot_bounds}
use Rattle.decide.specs.Laws.Granted.{SevenSays, five, here, grants_open_law}
use Rattle.shape.specs.AtOnce.{shape_at, Shaped}
use Rattle.shape.specs.Laws.Absent.{absent_s7, absent_s11}
use Rattle.shape.specs.Laws.AtOnce.{shaped_s2}
use Rattle.ordering.specs.Arrange.{Arranged}
use Rattle.decide.specs.Entries.{exactly}
use Rattle.ordering.specs.Laws.Present.{absent_zero}
use Rattle.decide.specs.Laws.Entries.{s7_parts}
use Rattle.ordering.specs.Order.{Orders}
use Rattle.verdict.specs.declared.Verdict.{Verdict}
use Rattle.verdict.specs.declared.Verdict.TheVariants.{Accepted, Length}
use Rattle.verdict.specs.Verdict.{fails_at, failing, verdict, image_verdict}
use Rattle.verdict.proofs.Laws.Names.{none_lower, lower_none}
use Rattle.covering.specs.Cover.{covers_for}
use Rattle.verdict.specs.Stages.{Before11, lowest_of, Reached}

-- ── the loops over the tests ──
-- none before number m fails
pub record NoneFails (board : Board) (l : List ℕ) (m : ℕ) : Type 0 where
  pub none : NoneBelow (fails_at board l) m

pub cleared_start : {board : Board} {l : List ℕ} → NoneFails board l 0
cleared_start = record { none = λ j b. absurd (omega arith) }

pub cleared_from : {board : Board} {l : List ℕ} {n : ℕ} → Reached board l n → NoneFails board l (16 * (n - 1))
cleared_from {board} {l} {n} h = record { none = lower_none board l n (omega (arith, h.to)) h.lower }

module _ {board : Board} {l : List ℕ} {m : ℕ} (h : NoneFails board l m) where
  -- the next test is one of a clause that is looked at
  pub cleared_reached : m < 176 → Reached board l (1 + m / 16)
  cleared_reached b = record { from = omega arith; to = omega arith; lower = none_lower board l m (1 + m / 16) (omega arith) (omega arith) h.none }

  module _ {r : Bool} (e : r ≡ clause_at board l (1 + m / 16) (m % 16)) where
    pub cleared_hit : (n : ℕ) → m < n → not r ≡ true → Some m ≡ lowest_of board l n
    unfolding lowest_of fails_at
    cleared_hit n b q = sym (seek_first (fails_at board l) (λ k. Some k) None n m b (ap not (sym e) ∙ q) h.none)

    pub cleared_on : not r ≡ false → NoneFails board l (m + 1)
    unfolding fails_at
    cleared_on q = record { none = λ j b. go j b (ℕ_discrete j m) }
      where
        go : (j : ℕ) → j < m + 1 → Dec (j ≡ m) → fails_at board l j ≡ false
        go j b (yes z) = rw z (ap not (sym e) ∙ q)
        go j b (no z) = h.none j (omega arith)

  pub cleared_end : (n : ℕ) → n ≤ m → None ≡ lowest_of board l n
  unfolding lowest_of
  cleared_end n z = sym (seek_none (fails_at board l) (λ k. Some k) None n (λ j b. h.none j (omega arith)))

-- ── the verdict from what they find ──
module _ (board : Board) (l : List ℕ) where
  -- one that fails is the lowest of all
  pub one_said : (n m : ℕ) → n ≤ 176 → Some m ≡ lowest_of board l n → failing m ≡ verdict board l
  unfolding lowest_of verdict
  one_said n m b e = go (seek_law (fails_at board l) (λ k. Some k) None n)
    where
      go : Sought (fails_at board l) (λ k. Some k) None n (lowest_of board l n) → failing m ≡ verdict board l
      go (inl (k, r)) =
          let z : m ≡ k = ap (λ (o : Option ℕ). unwrap_or o 0) (e ∙ r.is) in
          rw z (sym (seek_first (fails_at board l) failing Accepted 176 k (omega (arith, r.below)) r.holds r.before))
      go (inr r) = absurd (false≢true (sym (ap is_some (e ∙ r.is))))

  none_before : (n : ℕ) → None ≡ lowest_of board l n → NoneBelow (fails_at board l) n
  unfolding lowest_of
  none_before n e = go (seek_law (fails_at board l) (λ k. Some k) None n)
    where
      go : Sought (fails_at board l) (λ k. Some k) None n (lowest_of board l n) → NoneBelow (fails_at board l) n
      go (inl (k, r)) = absurd (false≢true (ap is_some (e ∙ r.is)))
      go (inr r) = r.none

  -- none of the first 96 fails; none of all
  pub early_reached : None ≡ lowest_of board l 96 → Reached board l 7
  early_reached e = record { from = omega arith; to = omega arith; lower = none_lower board l 96 7 (omega arith) (omega arith) (none_before 96 e) }

  pub none_said : None ≡ lowest_of board l 176 → Accepted ≡ verdict board l
  unfolding verdict
  none_said e = sym (seek_none (fails_at board l) failing Accepted 176 (none_before 176 e))

-- ── of an image's bytes ──
pub image_other : (board : Board) (b : List ℕ) → (length b ≡ 5128 → ⊥) → Length ≡ image_verdict board b
unfolding image_verdict
image_other board b n = rw (ne_eqb (length b) 5128 n) refl

pub image_said : (board : Board) (b : List ℕ) {t : List ℕ} {r : Verdict} → length b ≡ 5128 → t ≡ words_of b → r ≡ verdict board t → r ≡ image_verdict board b
unfolding image_verdict
image_said board b h q e = rw (eq-eqb (length b) 5128 h) (e ∙ ap (verdict board) q)

-- ── what the lower clauses tell ──
module _ {board : Board} {l : List ℕ} {n : ℕ} (h : Reached board l n) where
  tests : (m : ℕ) → 1 ≤ m → m < n → (p : ℕ) → p < 16 → clause_at board l m p ≡ true
  tests = lower_passed board l n (omega (arith, h.to)) h.lower

  pub reached_s3 : 4 ≤ n → (p : ℕ) → p < 16 → s3 l p ≡ true
  unfolding clause_at
  reached_s3 b p c = (and_says (not (eqb p 0) || s3_first l) (s3 l p) (tests 3 (omega arith) (omega arith) p c)).1

  pub reached_shaped : 6 ≤ n → Shaped l
  unfolding shape_at clause_at
  reached_shaped b = record {
    at = λ p c.
        and_true _ _ (tests 2 (omega arith) (omega arith) p c)
        (and_true _ _ (and_true _ _ (reached_s3 (omega arith) p c) (tests 4 (omega arith) (omega arith) p c)) (tests 5 (omega arith) (omega arith) p c));
  }

  pub reached_s6 : 7 ≤ n → all 16 (s6 (view l).k) ≡ true
  unfolding clause_at
  reached_s6 b = all_of 16 (s6 (view l).k) (λ p c. tests 6 (omega arith) (omega arith) p c)

  pub reached_s7 : 8 ≤ n → (p : ℕ) → p < 16 → s7 (view l) p ≡ true
  unfolding clause_at
  reached_s7 b p c = tests 7 (omega arith) (omega arith) p c

  -- the walk along what p was given knows S9
  pub reached_before : 11 ≤ n → (p : ℕ) → p < 16 → Before11 (view l) p
  unfolding clause_at
  reached_before b p c = record {
    s7 = reached_s7 (omega arith) p c;
    opens = λ _. grants_open_law shaped (reached_s6 (omega arith)) seven nine p;
  }
    where
      shaped : Shaped l
      shaped = reached_shaped (omega arith)

      seven : (q : ℕ) → Present (view l).k q → SevenSays (view l).k q
      seven q a =
          let (d, there) = here l q a in
          let (x, y) = and_says (s7_given (view l).k q && s7_whole (view l) q) (exactly (view l).k q) (sym (s7_parts (view l) q there) ∙ reached_s7 (omega arith) q d) in
          record { children = (and_says (s7_given (view l).k q) (s7_whole (view l) q) x).0; exact = y }

      nine : (q : ℕ) → S9 (view l) q
      nine q i e u =
          let d = (slot_bounds l q i e u).0 in
          (s9_means l (five shaped) q d).0 (tests 9 (omega arith) (omega arith) q d) i e u

-- the entries were put in order, since S6 holds
pub arranged_orders : {board : Board} {l o c : List ℕ} {r : Bool} → Reached board l 7 → Arranged (view l).k r o c → Orders (view l).k o c
arranged_orders h a = a.orders (a.says ∙ reached_s6 h (omega arith))

-- ── an absent partition passes ──
module _ {l : List ℕ} (p : ℕ) {r : Bool} (shaped : Shaped l) (b : p < 16) (e : r ≡ present (view l).k p) (q : not r ≡ true) where
  zero : (p ≡ 0 → ⊥) × (zero_record l p ≡ true)
  zero = absent_zero l p b (shaped_s2 shaped p b) (sym e ∙ not-true r q)

  pub s7_absent : true ≡ s7 (view l) p
  s7_absent = sym (absent_s7 l p zero.1 zero.0)

  pub s11_absent : true ≡ s11 (view l).k p
  s11_absent = sym (absent_s11 l p zero.1 zero.0)

-- ── S7 of a present partition ──
module _ (l : List ℕ) (p : ℕ) {r g : Bool} (there : r ≡ present (view l).k p) (here : not r ≡ false) (given : g ≡ s7_given (view l).k p && s7_whole (view l) p) where
  parts : s7 (view l) p ≡ s7_given (view l).k p && s7_whole (view l) p && exactly (view l).k p
  parts = s7_parts (view l) p (sym there ∙ not-false r here)

  pub given_fails : not g ≡ true → false ≡ s7 (view l) p
  given_fails q = sym (parts ∙ rw (← given, not-true g q) refl)

  pub exact_decides : {x : Bool} → not g ≡ false → x ≡ covers_for false (view l) p → x ≡ s7 (view l) p
  unfolding covers_for
  exact_decides q e = e ∙ sym (parts ∙ rw (← given, not-false g q) refl)

-- ── S11 of one ──
-- the walk tells S7, S11 and the open bits, and all but S11 hold
pub rights_decide : (l : List ℕ) (p : ℕ) {x : Bool} → present (view l).k p ≡ true → Before11 (view l) p → x ≡ covers_for true (view l) p → x ≡ s11 (view l).k p
unfolding covers_for
rights_decide l p here h e =
    let (_, y) = and_says (s7_given (view l).k p && s7_whole (view l) p) (exactly (view l).k p) (sym (s7_parts (view l) p here) ∙ h.s7) in
    e ∙ rw (y, h.opens here) (and-unit (s11 (view l).k p))
