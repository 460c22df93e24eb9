-- A partition of which no word of its record changes: its areas, its entries and their open bits are as they were.
use Rattle.std.specs.Prelude.{◌≡◌, refl, Bool, true, false, cond, List, ℕ, ◌+◌, ◌<◌, ltb}
use Rattle.std.proofs.Common.{ap, sym, ◌∙◌, arith, ltb-true}
use Rattle.words.specs.Kind.{fields_in}
use Rattle.words.specs.Words.{slot}
use Rattle.tables.specs.State.{none, Table}
use Rattle.tables.specs.View.{record_word, slot_word_at, entry_in, area_in, slot_at, area_at, inside, view_k, view}
use Rattle.tables.specs.Laws.Spelling.{area_word, slot_word_law}

pub record Stays (t new : Table) (p : ℕ) : Type 0 where
  pub area : (j : ℕ) → new.k.area p j ≡ t.k.area p j
  pub slot : (i : ℕ) → new.k.slot p i ≡ t.k.slot p i
  pub opened : (i : ℕ) → new.opened p i ≡ t.opened p i

-- what a table has inside depends on no more than what stands there
inside_ext : {A : Type 0} (z : A) (n m : ℕ) (f g : ℕ → ℕ → A) (p i : ℕ) → (i < m → f p i ≡ g p i) → inside z n m f p i ≡ inside z n m g p i
unfolding inside
inside_ext {A} z n m f g p i h = ap (λ (x : A). cond (ltb p n) x z) (go (ltb i m) refl)
  where
    go : (y : Bool) → ltb i m ≡ y → cond y (f p i) z ≡ cond y (g p i) z
    go true q = h (ltb-true i m q)
    go false q = refl

pub stays : (l m : List ℕ) (p : ℕ) → ((o : ℕ) → o < 40 → record_word m p o ≡ record_word l p o) → Stays (view l) (view m) p
unfolding view view_k
stays l m p same = record {
  area = λ j. inside_ext none 16 5 (area_at m) (area_at l) p j (λ h. ap (area_in j) (sym (area_word m p j) ∙ same j (omega arith) ∙ area_word l p j));
  slot = λ i. inside_ext none 16 32 (λ p i. entry_in (slot_at m p i)) (λ p i. entry_in (slot_at l p i)) p i (λ h. ap (λ (w : ℕ). entry_in (fields_in slot w)) (word i h));
  opened = λ i. inside_ext false 16 32 (λ p i. (slot_at m p i).opened) (λ p i. (slot_at l p i).opened) p i (λ h. ap (λ (w : ℕ). (fields_in slot w).opened) (word i h));
}
  where
    word : (i : ℕ) → i < 32 → slot_word_at m p i ≡ slot_word_at l p i
    word i h = sym (slot_word_law m p i) ∙ same (8 + i) (omega arith) ∙ slot_word_law l p i
