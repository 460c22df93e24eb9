-- What the code's readers promise: fields, and what they are in the table that the words are.
use Rattle.std.specs.Prelude.{◌≡◌, cond, List, eqb, ℕ, ◌+◌, ◌-◌, ◌^◌, ◌<◌}
use Rattle.words.specs.declared.first_word.FirstFields.{FirstFields}
use Rattle.words.specs.declared.header_word.HeaderFields.{HeaderFields}
use Rattle.words.specs.declared.regions_word.RegionsFields.{RegionsFields}
use Rattle.words.specs.declared.slot_word.SlotFields.{SlotFields}
use Rattle.words.specs.declared.structure_word.StructureFields.{StructureFields}
use Rattle.tables.specs.View.{entry_in, header_area, structure_area, nth_region, named, slot_at, header_at, structure_at, regions_at, view}
use Rattle.tables.specs.Encode.{Canon}

-- ── base, end and current ──
pub record SeenFirst (l : List ℕ) (f : FirstFields) : Type 0 where
  pub base : (view l).k.base ≡ f.base.0
  pub stop : (view l).k.stop ≡ f.end.0
  pub current : (view l).k.current ≡ f.current.0
  pub base_small : f.base.0 < 2 ^ 27
  pub end_small : f.end.0 < 2 ^ 27
  pub current_small : f.current.0 < 16

-- ── slot i of p ──
pub record Seen (l : List ℕ) (p i : ℕ) (f : SlotFields) : Type 0 where
  pub is : f ≡ slot_at l p i
  pub slot : (view l).k.slot p i ≡ entry_in f
  pub opened : (view l).opened p i ≡ f.opened
  pub given_small : f.given.0 < 16
  pub start_small : f.start.0 < 2 ^ 27
  pub end_small : f.end.0 < 2 ^ 27

-- ── the header of p ──
pub record SeenHeader (l : List ℕ) (p : ℕ) (f : HeaderFields) : Type 0 where
  pub is : f ≡ header_at l p
  pub area : (view l).k.area p 0 ≡ header_area f
  pub parent : (view l).k.parent p ≡ f.parent.0
  pub parent_small : f.parent.0 < 16
  pub start_small : f.start.0 < 2 ^ 27
  pub end_small : f.end.0 < 2 ^ 27

-- ── structure j of p ──
pub record SeenStructure (l : List ℕ) (p j : ℕ) (f : StructureFields) : Type 0 where
  pub is : f ≡ structure_at l p j
  pub area : (view l).k.area p (1 + j) ≡ structure_area f
  pub start_small : f.start.0 < 2 ^ 27
  pub end_small : f.end.0 < 2 ^ 27

-- ── the regions of p ──
pub record SeenRegions (l : List ℕ) (p : ℕ) (f : RegionsFields) : Type 0 where
  pub is : f ≡ regions_at l p
  pub region : (r : ℕ) → r < 8 → (view l).region p r ≡ named (nth_region f r)
  pub small : (r : ℕ) → (nth_region f r).slot.0 < 32

-- ── area j of p: the header's, or that of structure j - 1 ──
abbrev pub area_fields : List ℕ → ℕ → ℕ → StructureFields
area_fields l p j = cond (eqb j 0) (record { present = (header_at l p).present; start = (header_at l p).start; end = (header_at l p).end }) (structure_at l p (j - 1))

pub record SeenArea (l : List ℕ) (p j : ℕ) (f : StructureFields) : Type 0 where
  pub is : f ≡ area_fields l p j
  pub area : (view l).k.area p j ≡ structure_area f

-- ── the word of slot i of p ──
pub record CanRead (l : List ℕ) (p i : ℕ) : Type 0 where
  pub canon : Canon l
  pub in_p : p < 16
  pub in_i : i < 32
