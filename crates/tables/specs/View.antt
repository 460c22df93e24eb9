-- The 641 words, seen as a table.
use Rattle.std.specs.Prelude.{false, cond, List, [], ◌∷◌, get_or, eqb, ltb, ℕ, ◌+◌, ◌*◌}
use Rattle.words.specs.Kind.{fields_in}
use Rattle.words.specs.Words.{first, header, structure, regions, slot}
use Rattle.words.specs.Fields.{no_region}
use Rattle.words.specs.declared.first_word.FirstFields.{FirstFields}
use Rattle.words.specs.declared.header_word.HeaderFields.{HeaderFields}
use Rattle.words.specs.declared.regions_word.Region.{Region}
use Rattle.words.specs.declared.regions_word.RegionsFields.{RegionsFields}
use Rattle.words.specs.declared.slot_word.SlotFields.{SlotFields}
use Rattle.words.specs.declared.structure_word.StructureFields.{StructureFields}
use Rattle.tables.specs.State.{Opt, none, some, Entry, entry, Area, K, Table}

-- ── places: partition p has 40 words from word 1 + 40 p ──
abbrev pub area_place : ℕ → ℕ → ℕ
area_place p j = 1 + 40 * p + j

abbrev pub regions_place : ℕ → ℕ
regions_place p = 6 + 40 * p

abbrev pub slot_place : ℕ → ℕ → ℕ
slot_place p i = 9 + 40 * p + i

-- ── words by what they hold: above this crate no word is known by its number ──
-- base, end and current
unfoldable pub first_word : List ℕ → ℕ
first_word l = get_or l 0 0

-- word o of the 40 of partition p
unfoldable pub record_word : List ℕ → ℕ → ℕ → ℕ
record_word l p o = get_or l (1 + 40 * p + o) 0

-- area j of p: the header's, or that of structure j - 1
unfoldable pub area_word_at : List ℕ → ℕ → ℕ → ℕ
area_word_at l p j = get_or l (area_place p j) 0

unfoldable pub regions_word_at : List ℕ → ℕ → ℕ
regions_word_at l p = get_or l (regions_place p) 0

-- the two that hold nothing
unfoldable pub blank_word_at : List ℕ → ℕ → ℕ → ℕ
blank_word_at l p o = get_or l (1 + 40 * p + (6 + o)) 0

unfoldable pub slot_word_at : List ℕ → ℕ → ℕ → ℕ
slot_word_at l p i = get_or l (slot_place p i) 0

-- ── fields as parts of the table ──
abbrev pub entry_of : SlotFields → Entry
entry_of f = entry f.start.0 f.end.0 f.given.0 f.rights f.whole

-- a present slot is an entry
unfoldable pub entry_in : SlotFields → Opt Entry
entry_in f = cond f.present (some (entry_of f)) none

unfoldable pub header_area : HeaderFields → Opt Area
header_area f = cond f.present (some (record { lo = f.start.0; hi = f.end.0 })) none

unfoldable pub structure_area : StructureFields → Opt Area
structure_area f = cond f.present (some (record { lo = f.start.0; hi = f.end.0 })) none

-- the word of area j: the header's, or that of structure j - 1
unfoldable pub area_in : ℕ → ℕ → Opt Area
area_in j w = cond (eqb j 0) (header_area (fields_in header w)) (structure_area (fields_in structure w))

unfoldable pub nth_region : RegionsFields → ℕ → Region
nth_region f r = get_or (f.region0 ∷ f.region1 ∷ f.region2 ∷ f.region3 ∷ f.region4 ∷ f.region5 ∷ f.region6 ∷ f.region7 ∷ []) r no_region

-- the slot that a loaded region names
unfoldable pub named : Region → Opt ℕ
named r = cond r.loaded (some r.slot.0) none

-- ── what stands in a word ──
abbrev pub first_at : List ℕ → FirstFields
first_at l = fields_in first (first_word l)

abbrev pub slot_at : List ℕ → ℕ → ℕ → SlotFields
slot_at l p i = fields_in slot (slot_word_at l p i)

abbrev pub header_at : List ℕ → ℕ → HeaderFields
header_at l p = fields_in header (area_word_at l p 0)

abbrev pub structure_at : List ℕ → ℕ → ℕ → StructureFields
structure_at l p j = fields_in structure (area_word_at l p (1 + j))

abbrev pub regions_at : List ℕ → ℕ → RegionsFields
regions_at l p = fields_in regions (regions_word_at l p)

abbrev pub area_at : List ℕ → ℕ → ℕ → Opt Area
area_at l p j = area_in j (area_word_at l p j)

abbrev pub region_at : List ℕ → ℕ → ℕ → Opt ℕ
region_at l p r = named (nth_region (regions_at l p) r)

-- only what the table has: z outside n by m
unfoldable pub inside : {A : Type 0} → A → ℕ → ℕ → (ℕ → ℕ → A) → ℕ → ℕ → A
inside z n m f p i = cond (ltb p n) (cond (ltb i m) (f p i) z) z

unfoldable pub parent_at : List ℕ → ℕ → ℕ
parent_at l p = cond (ltb p 16) (header_at l p).parent.0 0

-- ── the table that a list of words is ──
unfoldable pub view_k : List ℕ → K
view_k l = record {
  base = (first_at l).base.0;
  stop = (first_at l).end.0;
  current = (first_at l).current.0;
  parent = parent_at l;
  area = inside none 16 5 (area_at l);
  slot = inside none 16 32 (λ p i. entry_in (slot_at l p i));
}

unfoldable pub view : List ℕ → Table
view l = record {
  k = view_k l;
  opened = inside false 16 32 (λ p i. (slot_at l p i).opened);
  region = inside none 16 8 (region_at l);
}
