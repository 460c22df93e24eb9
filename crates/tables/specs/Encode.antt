-- The 641 words of a table.
use Rattle.std.specs.Prelude.{◌≡◌, Bool, true, cond, List, eqb, ltb, ℕ, ◌-◌, ◌/◌, ◌%◌}
use Rattle.loops.specs.Loops.{tab}
use Rattle.words.specs.Kind.{word_of}
use Rattle.words.specs.Words.{first, header, structure, regions, slot}
use Rattle.words.specs.Fields.{no_region}
use Rattle.words.specs.declared.first_word.FirstFields.{FirstFields}
use Rattle.words.specs.declared.header_word.HeaderFields.{HeaderFields}
use Rattle.words.specs.declared.regions_word.Region.{Region}
use Rattle.words.specs.declared.regions_word.RegionsFields.{RegionsFields}
use Rattle.words.specs.declared.slot_word.SlotFields.{SlotFields}
use Rattle.words.specs.declared.structure_word.StructureFields.{StructureFields}
use Rattle.tables.specs.State.{Opt, none, some, Entry, Area, K, Table}
use Rattle.tables.specs.View.{view}

-- ── each word: an absent thing is a zero word ──
abbrev pub slot_for : Entry → Bool → SlotFields
slot_for e o = record { present = true; opened = o; rights = e.rights; given = record { 0 = e.given }; start = record { 0 = e.start }; end = record { 0 = e.stop }; whole = e.whole }

unfoldable pub slot_word : Opt Entry → Bool → ℕ
slot_word none o = 0
slot_word (some e) o = word_of slot (slot_for e o)

abbrev pub header_for : ℕ → Area → HeaderFields
header_for u a = record { present = true; parent = record { 0 = u }; start = record { 0 = a.lo }; end = record { 0 = a.hi } }

unfoldable pub header_word : ℕ → Opt Area → ℕ
header_word u none = 0
header_word u (some a) = word_of header (header_for u a)

abbrev pub structure_for : Area → StructureFields
structure_for a = record { present = true; start = record { 0 = a.lo }; end = record { 0 = a.hi } }

unfoldable pub structure_word : Opt Area → ℕ
structure_word none = 0
structure_word (some a) = word_of structure (structure_for a)

unfoldable pub region_for : Opt ℕ → Region
region_for none = no_region
region_for (some i) = record { loaded = true; slot = record { 0 = i } }

abbrev pub regions_for : (ℕ → Opt ℕ) → RegionsFields
regions_for f = record {
  region0 = region_for (f 0);
  region1 = region_for (f 1);
  region2 = region_for (f 2);
  region3 = region_for (f 3);
  region4 = region_for (f 4);
  region5 = region_for (f 5);
  region6 = region_for (f 6);
  region7 = region_for (f 7);
}

unfoldable pub regions_word : (ℕ → Opt ℕ) → ℕ
regions_word f = word_of regions (regions_for f)

abbrev pub first_for : K → FirstFields
first_for k = record { base = record { 0 = k.base }; end = record { 0 = k.stop }; current = record { 0 = k.current } }

-- ── word o of partition p, word n of the table ──
unfoldable pub part_word : Table → ℕ → ℕ → ℕ
part_word t p o =
    cond (ltb o 8)
    (cond (eqb o 5) (regions_word (t.region p))
    (cond (eqb o 0) (header_word (t.k.parent p) (t.k.area p 0))
    (cond (ltb o 5) (structure_word (t.k.area p o)) 0)))
    (slot_word (t.k.slot p (o - 8)) (t.opened p (o - 8)))

unfoldable pub word_for : Table → ℕ → ℕ
word_for t n = cond (eqb n 0) (word_of first (first_for t.k)) (part_word t ((n - 1) / 40) ((n - 1) % 40))

unfoldable pub encode : Table → List ℕ
encode t = tab 641 (word_for t)

-- canonical: the words are those of the table that they are seen as
pub record Canon (l : List ℕ) : Type 0 where
  pub same : encode (view l) ≡ l

-- the words l are those of the table t, and are seen as t
pub record Is (l : List ℕ) (t : Table) : Type 0 where
  pub viewed : view l ≡ t
  pub encoded : encode t ≡ l
