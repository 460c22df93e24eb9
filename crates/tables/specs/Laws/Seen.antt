-- What each reader reads is what the table has there; and two results are equal.
use Rattle.std.specs.Prelude.{◌≡◌, true, false, List, ℕ, ◌+◌, ◌-◌, ◌<◌}
use Rattle.std.proofs.Math.Path.{refl}
use Rattle.std.proofs.Common.{ap, sym, ◌∙◌, lt-ltb, eq-eqb, ne_eqb, arith}
use Rattle.words.specs.Laws.Fields.{first_small, header_small, structure_small, slot_small}
use Rattle.words.specs.declared.first_word.FirstFields.{FirstFields}
use Rattle.words.specs.declared.header_word.HeaderFields.{HeaderFields}
use Rattle.words.specs.declared.regions_word.Region.{Region}
use Rattle.words.specs.declared.regions_word.RegionsFields.{RegionsFields}
use Rattle.words.specs.declared.slot_word.SlotFields.{SlotFields}
use Rattle.words.specs.declared.structure_word.StructureFields.{StructureFields}
use Rattle.tables.specs.State.{none, some}
use Rattle.tables.specs.View.{first_word, area_word_at, regions_word_at, slot_word_at, entry_of, entry_in, header_area, structure_area, area_in, nth_region, named, first_at, slot_at, header_at, structure_at, regions_at, area_at, region_at, parent_at, view_k, view}
use Rattle.tables.specs.Search.{given_in}
use Rattle.tables.specs.Laws.View.{inside_in}
use Rattle.tables.specs.Encode.{slot_word}
use Rattle.tables.specs.Laws.Spelling.{canon_spells}
use Rattle.tables.specs.Laws.FitView.{region_small}
use Rattle.tables.specs.Seen.{SeenFirst, Seen, SeenHeader, SeenStructure, SeenRegions, SeenArea, CanRead}

-- ── base, end and current ──
pub see_first : (l : List ℕ) (f : FirstFields) → f ≡ first_at l → SeenFirst l f
unfolding view view_k
see_first l f e =
    let s = first_small (first_word l) in
    record {
      base = ap (λ (x : FirstFields). x.base.0) (sym e);
      stop = ap (λ (x : FirstFields). x.end.0) (sym e);
      current = ap (λ (x : FirstFields). x.current.0) (sym e);
      base_small = rw e s.base;
      end_small = rw e s.stop;
      current_small = rw e s.current;
    }

-- two results of a reader are equal, of this one and of those below
pub seen_first_one : {l : List ℕ} {f g : FirstFields} → SeenFirst l f → SeenFirst l g → f ≡ g
seen_first_one x y =
    with_fields (sym x.base ∙ y.base) (sym x.stop ∙ y.stop) (sym x.current ∙ y.current)
  where
    with_fields : {a b c a' b' c' : ℕ} → a ≡ a' → b ≡ b' → c ≡ c'
        → ◌≡◌ {A = FirstFields} (record { base = record { 0 = a }; end = record { 0 = b }; current = record { 0 = c } }) (record { base = record { 0 = a' }; end = record { 0 = b' }; current = record { 0 = c' } })
    with_fields p q r = cc

-- ── slot i of p ──
pub see : (l : List ℕ) (p i : ℕ) (f : SlotFields) → p < 16 → i < 32 → f ≡ slot_at l p i → Seen l p i f
unfolding view view_k
see l p i f hp hi e =
    let s = slot_small (slot_word_at l p i) in
    record {
      is = e;
      slot = inside_in none 16 32 (λ p i. entry_in (slot_at l p i)) p i hp hi ∙ ap entry_in (sym e);
      opened = inside_in false 16 32 (λ p i. (slot_at l p i).opened) p i hp hi ∙ ap (λ (x : SlotFields). x.opened) (sym e);
      given_small = rw e s.given;
      start_small = rw e s.start;
      end_small = rw e s.stop;
    }

pub seen_one : {l : List ℕ} {p i : ℕ} {f g : SlotFields} → Seen l p i f → Seen l p i g → f ≡ g
seen_one x y = x.is ∙ sym y.is

-- what is there of an entry f that was read
module _ {l : List ℕ} {p i : ℕ} {f : SlotFields} (v : Seen l p i f) where
  pub entry_none : f.present ≡ false → (view l).k.slot p i ≡ none
  unfolding entry_in
  entry_none q = v.slot ∙ rw q refl

  pub entry_there : f.present ≡ true → (view l).k.slot p i ≡ some (entry_of f)
  unfolding entry_in
  entry_there q = v.slot ∙ rw q refl

-- ── the header of p ──
pub see_header : (l : List ℕ) (p : ℕ) (f : HeaderFields) → p < 16 → f ≡ header_at l p → SeenHeader l p f
unfolding view view_k parent_at area_in
see_header l p f hp e =
    let s = header_small (area_word_at l p 0) in
    record {
      is = e;
      area = inside_in none 16 5 (area_at l) p 0 hp (omega arith) ∙ ap header_area (sym e);
      parent = rw (lt-ltb p 16 hp) (ap (λ (x : HeaderFields). x.parent.0) (sym e));
      parent_small = rw e s.parent;
      start_small = rw e s.start;
      end_small = rw e s.stop;
    }

pub seen_header_one : {l : List ℕ} {p : ℕ} {f g : HeaderFields} → SeenHeader l p f → SeenHeader l p g → f ≡ g
seen_header_one x y = x.is ∙ sym y.is

-- ── structure j of p ──
pub see_structure : (l : List ℕ) (p j : ℕ) (f : StructureFields) → p < 16 → j < 4 → f ≡ structure_at l p j → SeenStructure l p j f
unfolding view view_k area_in
see_structure l p j f hp hj e =
    let s = structure_small (area_word_at l p (1 + j)) in
    record {
      is = e;
      area = inside_in none 16 5 (area_at l) p (1 + j) hp (omega arith) ∙ rw (ne_eqb (1 + j) 0 (λ z. omega arith)) (ap structure_area (sym e));
      start_small = rw e s.start;
      end_small = rw e s.stop;
    }

pub seen_structure_one : {l : List ℕ} {p j : ℕ} {f g : StructureFields} → SeenStructure l p j f → SeenStructure l p j g → f ≡ g
seen_structure_one x y = x.is ∙ sym y.is

-- ── the regions of p ──
pub see_regions : (l : List ℕ) (p : ℕ) (f : RegionsFields) → p < 16 → f ≡ regions_at l p → SeenRegions l p f
unfolding view
see_regions l p f hp e = record {
  is = e;
  region = λ r h. inside_in none 16 8 (region_at l) p r hp h ∙ ap (λ (x : RegionsFields). named (nth_region x r)) (sym e);
  small = λ r. rw e (region_small (regions_word_at l p) r);
}

-- region r, taken out of them
pub see_region : {l : List ℕ} {p r : ℕ} {f : RegionsFields} {x : Region} → SeenRegions l p f → r < 8 → x ≡ nth_region f r → (view l).region p r ≡ named x
see_region {r = r} v h e = v.region r h ∙ ap named (sym e)

pub seen_regions_one : {l : List ℕ} {p : ℕ} {f g : RegionsFields} → SeenRegions l p f → SeenRegions l p g → f ≡ g
seen_regions_one x y = x.is ∙ sym y.is

-- ── area j of p: the header's, or that of structure j - 1 ──
pub area_header : {l : List ℕ} {p j : ℕ} {h : HeaderFields} → j ≡ 0 → SeenHeader l p h → SeenArea l p j (record { present = h.present; start = h.start; end = h.end })
unfolding header_area structure_area
area_header {l} {p} {j} z v = record {
  is = ap (λ (x : HeaderFields). record { present = x.present; start = x.start; end = x.end }) v.is ∙ rw (eq-eqb j 0 z) refl;
  area = ap ((view l).k.area p) z ∙ v.area;
}

pub area_structure : {l : List ℕ} {p j : ℕ} {f : StructureFields} → (j ≡ 0 → ⊥) → SeenStructure l p (j - 1) f → SeenArea l p j f
area_structure {l} {p} {j} z v =
    let n : 1 + (j - 1) ≡ j = omega arith in
    record { is = rw (ne_eqb j 0 z) v.is; area = rw n at v.area }

pub seen_area_one : {l : List ℕ} {p j : ℕ} {f g : StructureFields} → SeenArea l p j f → SeenArea l p j g → f ≡ g
seen_area_one x y = x.is ∙ sym y.is

-- ── the word of slot i of p ──
pub word_of_law : (l : List ℕ) (p i : ℕ) → CanRead l p i → slot_word_at l p i ≡ slot_word ((view l).k.slot p i) ((view l).opened p i)
word_of_law l p i h = ((canon_spells h.canon).at p h.in_p).slot i h.in_i

-- whom slot i of p is given to, which was read as f
module _ {l : List ℕ} {p i : ℕ} {f : SlotFields} (seen : Seen l p i f) where
  pub given_none : f.present ≡ false → 0 ≡ given_in ((view l).k.slot p i)
  unfolding given_in entry_in
  given_none q = rw (seen.slot, q) refl

  pub given_some : f.present ≡ true → f.given.0 ≡ given_in ((view l).k.slot p i)
  unfolding given_in entry_in
  given_some q = rw (seen.slot, q) refl
