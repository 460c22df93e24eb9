-- The tests mean that the words are zero; and a partition of zero words has no area, no entry and no region.
use Rattle.std.specs.Prelude.{◌≡◌, true, List, ◌↔◌, ℕ, zero, suc, ◌+◌, ◌*◌, ◌≤◌, ◌<◌, get_or}
use Rattle.std.proofs.Common.{ap, sym, ◌∙◌, arith}
use Rattle.std.proofs.Math.Bool.{and-eq-true_iff}
use Rattle.std.proofs.Math.Dec.{eqb}
use borrow.Author.Tests.{eqb-true, eq-eqb}
use Rattle.loops.specs.Loops.{all}
use Rattle.loops.specs.Laws.Every.{all_at, all_of, all_ext}
use Rattle.tables.specs.State.{none}
use Rattle.tables.specs.View.{slot_place, record_word, blank_word_at, slot_word_at, view}
use Rattle.tables.specs.Laws.Spelling.{area_word, zero_regions, zero_slots}
use Rattle.tables.specs.Spelling.{ZeroWords}
use Rattle.tables.specs.Laws.ZeroWord.{no_area, no_entry, no_region_law}
use Rattle.tables.specs.ZeroRecord.{zero_to, zero_blanks, zero_record}

module _ {n : ℕ} (l : List ℕ) (p : ℕ) (z : zero_to n l p ≡ true) where
  zero_word : (o : ℕ) → o < n → record_word l p o ≡ 0
  unfolding zero_to
  zero_word o h = eqb-true _ 0 (all_at n (λ o. eqb (record_word l p o) 0) z o h)

  -- the first five are those of its areas
  pub zero_area : 5 ≤ n → (j : ℕ) → (view l).k.area p j ≡ none
  zero_area few j = no_area l p j (λ _ h. sym (area_word l p j) ∙ zero_word j (omega arith))

pub zero_record_means : (l : List ℕ) (p : ℕ) → (zero_record l p ≡ true) ↔ ZeroWords l p
unfolding zero_to
zero_record_means l p = (zero_word l p, λ z. all_of 40 (λ o. eqb (record_word l p o) 0) (λ o h. eq-eqb _ 0 (z o h)))

pub zero_blanks_mean : (l : List ℕ) (p : ℕ) → (zero_blanks l p ≡ true) ↔ ((o : ℕ) → o < 2 → blank_word_at l p o ≡ 0)
unfolding zero_blanks
zero_blanks_mean l p = (
  λ q. two ((and-eq-true_iff (eqb (blank_word_at l p 0) 0) (eqb (blank_word_at l p 1) 0)).0 q),
  λ h. (and-eq-true_iff _ _).1 (eq-eqb _ 0 (h 0 (omega arith)), eq-eqb _ 0 (h 1 (omega arith))),
)
  where
    two : (eqb (blank_word_at l p 0) 0 ≡ true) × (eqb (blank_word_at l p 1) 0 ≡ true) → (o : ℕ) → o < 2 → blank_word_at l p o ≡ 0
    two h zero b = eqb-true _ 0 h.0
    two h (suc zero) b = eqb-true _ 0 h.1
    two h (suc (suc o)) b = absurd (omega arith)

module _ (l : List ℕ) (p : ℕ) (z : zero_record l p ≡ true) where
  words : ZeroWords l p
  words = zero_word l p z

  pub zero_entry : (i : ℕ) → (view l).k.slot p i ≡ none
  zero_entry i = no_entry l p i (λ _. zero_slots l p words i)

  pub zero_region : (r : ℕ) → (view l).region p r ≡ none
  zero_region r = no_region_law l p r (zero_regions l p words)

-- the words of the eight slots of structure j, counted from the first of them
pub structure_slots : (l : List ℕ) (p j : ℕ) → all 8 (λ o. eqb (get_or l (9 + 40 * p + 8 * j + o) 0) 0) ≡ all 8 (λ o. eqb (slot_word_at l p (8 * j + o)) 0)
unfolding slot_word_at
structure_slots l p j = all_ext 8 _ _ (λ o h. let z : 9 + 40 * p + 8 * j + o ≡ slot_place p (8 * j + o) = omega arith in ap (λ (n : ℕ). eqb (get_or l n 0) 0) z)
