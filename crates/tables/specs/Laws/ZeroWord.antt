-- A zero word is seen as nothing.
use Rattle.std.specs.Prelude.{◌≡◌, Bool, List, ℕ, ◌<◌, eqb}
use Rattle.std.proofs.Math.Path.{refl, ap}
use Rattle.std.proofs.Common.{◌∙◌, ltb-true}
use Rattle.std.proofs.Math.Bool.{true, false, cond}
use Rattle.std.proofs.Math.Dec.{ltb}
use Rattle.words.specs.Kind.{fields_in}
use Rattle.words.specs.Words.{header, structure, regions, slot}
use Rattle.words.specs.Fields.{no_region}
use Rattle.words.specs.Laws.Fields.{header_zero, structure_zero, slot_zero, regions_zero}
use Rattle.words.specs.declared.header_word.HeaderFields.{HeaderFields}
use Rattle.words.specs.declared.regions_word.RegionsFields.{RegionsFields}
use Rattle.words.specs.declared.slot_word.SlotFields.{SlotFields}
use Rattle.tables.specs.State.{none}
use Rattle.tables.specs.View.{area_word_at, regions_word_at, slot_word_at, entry_in, header_area, structure_area, area_in, nth_region, named, slot_at, header_at, regions_at, area_at, region_at, parent_at, view_k, view}
use Rattle.tables.specs.Laws.View.{inside_none}
use Rattle.tables.specs.Encode.{region_for}
use Rattle.tables.specs.Laws.Back.{nth_for}

area_in_law : (j : ℕ) → area_in j 0 ≡ none
unfolding area_in header_area structure_area
area_in_law j = go (eqb j 0)
  where
    go : (b : Bool) → cond b (header_area (fields_in header 0)) (structure_area (fields_in structure 0)) ≡ none
    go true = ap header_area header_zero
    go false = ap structure_area structure_zero

entry_in_law : entry_in (fields_in slot 0) ≡ none
unfolding entry_in
entry_in_law = ap entry_in slot_zero

pub region_in : (r : ℕ) → r < 8 → nth_region (fields_in regions 0) r ≡ no_region
unfolding region_for
region_in r h = ap (λ (f : RegionsFields). nth_region f r) regions_zero ∙ nth_for (λ r. none) r h

module _ (l : List ℕ) (p : ℕ) where
  pub no_area : (j : ℕ) → (p < 16 → j < 5 → area_word_at l p j ≡ 0) → (view l).k.area p j ≡ none
  unfolding view view_k
  no_area j q = inside_none none 16 5 (area_at l) p j (λ a b. ap (area_in j) (q a b) ∙ area_in_law j)

  pub no_entry : (i : ℕ) → (p < 16 → i < 32 → slot_word_at l p i ≡ 0) → (view l).k.slot p i ≡ none
  unfolding view view_k
  no_entry i q = inside_none none 16 32 (λ p i. entry_in (slot_at l p i)) p i (λ a b. ap (λ (w : ℕ). entry_in (fields_in slot w)) (q a b) ∙ entry_in_law)

  pub not_open : (i : ℕ) → (p < 16 → i < 32 → slot_word_at l p i ≡ 0) → (view l).opened p i ≡ false
  unfolding view
  not_open i q =
      inside_none false 16 32 (λ p i. (slot_at l p i).opened) p i
      (λ a b. ap (λ (w : ℕ). (fields_in slot w).opened) (q a b) ∙ ap (λ (f : SlotFields). f.opened) slot_zero)

  pub blank_regions : regions_word_at l p ≡ 0 → (r : ℕ) → r < 8 → nth_region (regions_at l p) r ≡ no_region
  blank_regions q r h = ap (λ (w : ℕ). nth_region (fields_in regions w) r) q ∙ region_in r h

  pub no_region_law : (r : ℕ) → regions_word_at l p ≡ 0 → (view l).region p r ≡ none
  unfolding view named
  no_region_law r q = inside_none none 16 8 (region_at l) p r (λ _ h. ap named (blank_regions q r h))

  pub no_parent : (p < 16 → area_word_at l p 0 ≡ 0) → (view l).k.parent p ≡ 0
  unfolding view view_k parent_at
  no_parent q = go (ltb p 16) refl
    where
      go : (x : Bool) → ltb p 16 ≡ x → cond x (header_at l p).parent.0 0 ≡ 0
      go true u = ap (λ (w : ℕ). (fields_in header w).parent.0) (q (ltb-true p 16 u)) ∙ ap (λ (f : HeaderFields). f.parent.0) header_zero
      go false u = refl
