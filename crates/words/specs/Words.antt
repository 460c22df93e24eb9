-- 01's packed words, column by column, the two of 02's sheet, and one of the library's own: the parts of each kind, most significant first, and the struct that has its fields.
use Rattle.std.specs.Prelude.{List, [], ◌∷◌, ◌++◌, ℕ, ◌+◌, get_or, eqb}
use Rattle.loops.specs.Loops.{bit_of}
use Rattle.words.specs.Parts.{Part, bits, zeros}
use Rattle.words.specs.Kind.{Kind}
use Rattle.words.specs.declared.boot_word.BootFields.{BootFields}
use Rattle.words.specs.declared.call_word.CallFields.{CallFields}
use Rattle.words.specs.declared.first_word.FirstFields.{FirstFields}
use Rattle.words.specs.declared.header_word.HeaderFields.{HeaderFields}
use Rattle.words.specs.declared.lines_word.LinesFields.{LinesFields}
use Rattle.words.specs.declared.mark_word.MarkFields.{MarkFields}
use Rattle.words.specs.declared.masks_word.MasksFields.{MasksFields}
use Rattle.words.specs.declared.regions_word.RegionsFields.{RegionsFields}
use Rattle.words.specs.declared.slot_word.SlotFields.{SlotFields}
use Rattle.words.specs.declared.structure_word.StructureFields.{StructureFields}
use Rattle.words.specs.declared.regions_word.Region.{Region}

-- word 0: base 27, end 27, current 4, zero 6
unfoldable pub first : Kind FirstFields
first = record {
  parts = bits 27 ∷ bits 27 ∷ bits 4 ∷ zeros 6 ∷ [];
  of = λ l. record { base = record { 0 = get_or l 0 0 }; end = record { 0 = get_or l 1 0 }; current = record { 0 = get_or l 2 0 } };
  list = λ f. f.base.0 ∷ f.end.0 ∷ f.current.0 ∷ [];
}

-- a header: present 1, parent 4, area start 27, area end 27, zero 5
unfoldable pub header : Kind HeaderFields
header = record {
  parts = bits 1 ∷ bits 4 ∷ bits 27 ∷ bits 27 ∷ zeros 5 ∷ [];
  of = λ l. record { present = eqb (get_or l 0 0) 1; parent = record { 0 = get_or l 1 0 }; start = record { 0 = get_or l 2 0 }; end = record { 0 = get_or l 3 0 } };
  list = λ f. bit_of f.present ∷ f.parent.0 ∷ f.start.0 ∷ f.end.0 ∷ [];
}

-- a structure: present 1, area start 27, area end 27, zero 9
unfoldable pub structure : Kind StructureFields
structure = record {
  parts = bits 1 ∷ bits 27 ∷ bits 27 ∷ zeros 9 ∷ [];
  of = λ l. record { present = eqb (get_or l 0 0) 1; start = record { 0 = get_or l 1 0 }; end = record { 0 = get_or l 2 0 } };
  list = λ f. bit_of f.present ∷ f.start.0 ∷ f.end.0 ∷ [];
}

abbrev region_byte : List Part
region_byte = bits 1 ∷ zeros 2 ∷ bits 5 ∷ []

abbrev region_at : List ℕ → ℕ → Region
region_at l i = record { loaded = eqb (get_or l i 0) 1; slot = record { 0 = get_or l (i + 1) 0 } }

abbrev region_list : Region → List ℕ
region_list r = bit_of r.loaded ∷ r.slot.0 ∷ []

-- regions: eight bytes, region 0 first: loaded 1, zero 2, slot 5
unfoldable pub regions : Kind RegionsFields
regions = record {
  parts = region_byte ++ region_byte ++ region_byte ++ region_byte ++ region_byte ++ region_byte ++ region_byte ++ region_byte;
  of = λ l. record { region0 = region_at l 0; region1 = region_at l 2; region2 = region_at l 4; region3 = region_at l 6; region4 = region_at l 8; region5 = region_at l 10; region6 = region_at l 12; region7 = region_at l 14 };
  list = λ f. region_list f.region0 ++ region_list f.region1 ++ region_list f.region2 ++ region_list f.region3 ++ region_list f.region4 ++ region_list f.region5 ++ region_list f.region6 ++ region_list f.region7;
}

-- a slot: present 1, open 1, read 1, write 1, execute 1, given 4, start 27, end 27, whole 1
unfoldable pub slot : Kind SlotFields
slot = record {
  parts = bits 1 ∷ bits 1 ∷ bits 1 ∷ bits 1 ∷ bits 1 ∷ bits 4 ∷ bits 27 ∷ bits 27 ∷ bits 1 ∷ [];
  of = λ l. record { present = eqb (get_or l 0 0) 1; opened = eqb (get_or l 1 0) 1; rights = record { read = eqb (get_or l 2 0) 1; write = eqb (get_or l 3 0) 1; execute = eqb (get_or l 4 0) 1 }; given = record { 0 = get_or l 5 0 }; start = record { 0 = get_or l 6 0 }; end = record { 0 = get_or l 7 0 }; whole = eqb (get_or l 8 0) 1 };
  list = λ f. bit_of f.present ∷ bit_of f.opened ∷ bit_of f.rights.read ∷ bit_of f.rights.write ∷ bit_of f.rights.execute ∷ f.given.0 ∷ f.start.0 ∷ f.end.0 ∷ bit_of f.whole ∷ [];
}

-- a call word: service 4, P 4, S 5, T 5, R 3 (read, write, execute), L 27, W 1, zero 15
unfoldable pub call : Kind CallFields
call = record {
  parts = bits 4 ∷ bits 4 ∷ bits 5 ∷ bits 5 ∷ bits 1 ∷ bits 1 ∷ bits 1 ∷ bits 27 ∷ bits 1 ∷ zeros 15 ∷ [];
  of = λ l. record { service = get_or l 0 0; partition = record { 0 = get_or l 1 0 }; slot = record { 0 = get_or l 2 0 }; other = get_or l 3 0; rights = record { read = eqb (get_or l 4 0) 1; write = eqb (get_or l 5 0) 1; execute = eqb (get_or l 6 0) 1 }; line = record { 0 = get_or l 7 0 }; whole = eqb (get_or l 8 0) 1 };
  list = λ f. f.service ∷ f.partition.0 ∷ f.slot.0 ∷ f.other ∷ bit_of f.rights.read ∷ bit_of f.rights.write ∷ bit_of f.rights.execute ∷ f.line.0 ∷ bit_of f.whole ∷ [];
}

-- a boot word: base 27, end 27, zero 10
unfoldable pub boot : Kind BootFields
boot = record {
  parts = bits 27 ∷ bits 27 ∷ zeros 10 ∷ [];
  of = λ l. record { base = record { 0 = get_or l 0 0 }; end = record { 0 = get_or l 1 0 } };
  list = λ f. f.base.0 ∷ f.end.0 ∷ [];
}

-- the first word of a partition in the sheet: children mask 16, occupied slots 32, present structures 4, zero 12
unfoldable pub masks : Kind MasksFields
masks = record {
  parts = bits 16 ∷ bits 32 ∷ bits 4 ∷ zeros 12 ∷ [];
  of = λ l. record { children = get_or l 0 0; slots = get_or l 1 0; structures = get_or l 2 0 };
  list = λ f. f.children ∷ f.slots ∷ f.structures ∷ [];
}

-- .. and its second: lines held 27, lines open 27, zero 10
unfoldable pub lines : Kind LinesFields
lines = record {
  parts = bits 27 ∷ bits 27 ∷ zeros 10 ∷ [];
  of = λ l. record { held = get_or l 0 0; opened = get_or l 1 0 };
  list = λ f. f.held ∷ f.opened ∷ [];
}

-- a mark: zero 33, line 27, holder 4. Not one of 01's: a list of runs and a way down are kept as marks, 32 bits each
unfoldable pub mark : Kind MarkFields
mark = record {
  parts = zeros 33 ∷ bits 27 ∷ bits 4 ∷ [];
  of = λ l. record { line = record { 0 = get_or l 0 0 }; holder = record { 0 = get_or l 1 0 } };
  list = λ f. f.line.0 ∷ f.holder.0 ∷ [];
}
