-- What canonical words are seen as fits them.
use Rattle.std.specs.Prelude.{◌≡◌, Bool, true, false, cond, List, eqb, ltb, ℕ, zero, suc, ◌^◌, ◌<◌}
use Rattle.std.proofs.Math.Path.{refl}
use Rattle.std.proofs.Common.{◌∙◌}
use native.Mathlib.Omega.{arith}
use Rattle.words.specs.Kind.{fields_in}
use Rattle.words.specs.Words.{header, structure, regions}
use Rattle.words.specs.Laws.Fields.{first_small, header_small, structure_small, slot_small, regions_small}
use Rattle.tables.specs.State.{none, some, Area}
use Rattle.tables.specs.Laws.State.{not_none, some_inj, same, same_a}
use Rattle.tables.specs.View.{first_word, area_word_at, regions_word_at, slot_word_at, entry_of, entry_in, header_area, structure_area, area_in, nth_region, named, slot_at, header_at, regions_at, area_at, region_at, parent_at, view_k, view}
use Rattle.tables.specs.Laws.View.{inside_some}
use Rattle.tables.specs.Encode.{slot_word, header_word, structure_word, Canon}
use Rattle.tables.specs.Laws.Spelling.{canon_spells}
use Rattle.tables.specs.Laws.Back.{Fit}
use Rattle.tables.specs.Laws.ZeroWord.{not_open, no_parent}

-- ── fields that were read are below their widths ──
pub region_small : (w r : ℕ) → (nth_region (fields_in regions w) r).slot.0 < 32
unfolding nth_region
region_small w zero = (regions_small w).region0
region_small w (suc zero) = (regions_small w).region1
region_small w (suc (suc zero)) = (regions_small w).region2
region_small w (suc (suc (suc zero))) = (regions_small w).region3
region_small w (suc (suc (suc (suc zero)))) = (regions_small w).region4
region_small w (suc (suc (suc (suc (suc zero))))) = (regions_small w).region5
region_small w (suc (suc (suc (suc (suc (suc zero)))))) = (regions_small w).region6
region_small w (suc (suc (suc (suc (suc (suc (suc zero))))))) = (regions_small w).region7
region_small w (suc (suc (suc (suc (suc (suc (suc (suc r)))))))) = omega arith

-- ── what a present thing is ──
when_is : {A : Type 0} (b : Bool) (x a : A) → cond b (some x) none ≡ some a → x ≡ a
when_is true x a q = some_inj q
when_is false x a q = not_none none refl q

area_small : (j w : ℕ) (a : Area) → area_in j w ≡ some a → (a.lo < 2 ^ 27) × (a.hi < 2 ^ 27)
unfolding area_in header_area structure_area
area_small j w a q = go (eqb j 0) q
  where
    go : (b : Bool) → cond b (header_area (fields_in header w)) (structure_area (fields_in structure w)) ≡ some a → (a.lo < 2 ^ 27) × (a.hi < 2 ^ 27)
    go true q = let s = same_a (when_is (fields_in header w).present _ a q) in let f = header_small w in (omega arith, omega arith)
    go false q = let s = same_a (when_is (fields_in structure w).present _ a q) in let f = structure_small w in (omega arith, omega arith)

-- every parent is one of the 16, whatever the words are
pub parents_small : (l : List ℕ) (p : ℕ) → (view l).k.parent p < 16
unfolding view view_k parent_at
parents_small l p = go (ltb p 16)
  where
    go : (x : Bool) → cond x (header_at l p).parent.0 0 < 16
    go true = (header_small (area_word_at l p 0)).parent
    go false = omega arith

module _ {l : List ℕ} (c : Canon l) where
  -- ── an absent thing is a zero word ──
  pub zero_slot : (p i : ℕ) → p < 16 → i < 32 → (view l).k.slot p i ≡ none → slot_word_at l p i ≡ 0
  unfolding slot_word
  zero_slot p i hp hi q = ((canon_spells c).at p hp).slot i hi ∙ rw q refl

  pub zero_header : (p : ℕ) → p < 16 → (view l).k.area p 0 ≡ none → area_word_at l p 0 ≡ 0
  unfolding header_word
  zero_header p hp q = ((canon_spells c).at p hp).header ∙ rw q refl

  pub zero_structure : (p j : ℕ) → p < 16 → 0 < j → j < 5 → (view l).k.area p j ≡ none → area_word_at l p j ≡ 0
  unfolding structure_word
  zero_structure p j hp h g q = ((canon_spells c).at p hp).structure j h g ∙ rw q refl

  pub fit_view : Fit (view l)
  unfolding view view_k entry_in named
  fit_view = record {
    base = (first_small (first_word l)).base;
    stop = (first_small (first_word l)).stop;
    current = (first_small (first_word l)).current;
    parent = parents_small l;
    orphan = λ p q. no_parent l p (λ h. zero_header p h q);
    area = λ p j a u.
        let s = inside_some 16 5 (area_at l) p j a u in
        let f = area_small j (area_word_at l p j) a s.2 in
        (s.0, s.1, f.0, f.1);
    slot = λ p i e u.
        let s = inside_some 16 32 (λ p i. entry_in (slot_at l p i)) p i e u in
        let w = same (when_is (slot_at l p i).present (entry_of (slot_at l p i)) e s.2) in
        let f = slot_small (slot_word_at l p i) in
        (s.0, s.1, omega arith, omega arith, omega arith);
    closed = λ p i q. not_open l p i (λ h b. zero_slot p i h b q);
    region = λ p r i u.
        let s = inside_some 16 8 (region_at l) p r i u in
        let n = nth_region (regions_at l p) r in
        let w = when_is n.loaded n.slot.0 i s.2 in
        let f = region_small (regions_word_at l p) r in
        (s.0, s.1, omega arith);
  }
