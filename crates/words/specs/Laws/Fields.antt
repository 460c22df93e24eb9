-- Fields that were read are below their widths; those of the zero word are absent and 0; and what the reader of a call word answers.
use Rattle.std.specs.Prelude.{◌≡◌, refl, false, cond, ℕ, ◌^◌, ◌<◌, Ok, Err}
use Rattle.std.proofs.Common.{ap, sym, ◌∙◌, arith}
use Rattle.words.specs.Kind.{fields_in, word_of, zeroed, reading, Zeroed}
use Rattle.words.specs.Laws.Kind.{zero_back}
use Rattle.words.specs.Words.{first, header, structure, regions, slot, call, masks}
use Rattle.words.specs.Laws.Kinds.{regions_lawful}
use Rattle.words.specs.declared.first_word.FirstFields.{FirstFields}
use Rattle.words.specs.declared.header_word.HeaderFields.{HeaderFields}
use Rattle.words.specs.declared.regions_word.RegionsFields.{RegionsFields}
use Rattle.words.specs.declared.slot_word.SlotFields.{SlotFields}
use Rattle.words.specs.declared.structure_word.StructureFields.{StructureFields}
use Rattle.words.specs.Fields.{SmallCall, no_region}
use Rattle.words.specs.declared.Refusal.TheVariants.{BadWord}

-- ── fields that stand in a word are below their widths ──
pub record SmallFirst (f : FirstFields) : Type 0 where
  pub base : f.base.0 < 2 ^ 27
  pub stop : f.end.0 < 2 ^ 27
  pub current : f.current.0 < 16

pub first_small : (w : ℕ) → SmallFirst (fields_in first w)
unfolding first
first_small w = record { base = omega arith; stop = omega arith; current = omega arith }

pub record SmallHeader (f : HeaderFields) : Type 0 where
  pub parent : f.parent.0 < 16
  pub start : f.start.0 < 2 ^ 27
  pub stop : f.end.0 < 2 ^ 27

pub header_small : (w : ℕ) → SmallHeader (fields_in header w)
unfolding header
header_small w = record { parent = omega arith; start = omega arith; stop = omega arith }

pub record SmallStructure (f : StructureFields) : Type 0 where
  pub start : f.start.0 < 2 ^ 27
  pub stop : f.end.0 < 2 ^ 27

pub structure_small : (w : ℕ) → SmallStructure (fields_in structure w)
unfolding structure
structure_small w = record { start = omega arith; stop = omega arith }

pub record SmallSlot (f : SlotFields) : Type 0 where
  pub given : f.given.0 < 16
  pub start : f.start.0 < 2 ^ 27
  pub stop : f.end.0 < 2 ^ 27

pub slot_small : (w : ℕ) → SmallSlot (fields_in slot w)
unfolding slot
slot_small w = record { given = omega arith; start = omega arith; stop = omega arith }

pub record SmallRegions (f : RegionsFields) : Type 0 where
  pub region0 : f.region0.slot.0 < 32
  pub region1 : f.region1.slot.0 < 32
  pub region2 : f.region2.slot.0 < 32
  pub region3 : f.region3.slot.0 < 32
  pub region4 : f.region4.slot.0 < 32
  pub region5 : f.region5.slot.0 < 32
  pub region6 : f.region6.slot.0 < 32
  pub region7 : f.region7.slot.0 < 32

pub regions_small : (w : ℕ) → SmallRegions (fields_in regions w)
unfolding regions
regions_small w = record {
  region0 = omega arith;
  region1 = omega arith;
  region2 = omega arith;
  region3 = omega arith;
  region4 = omega arith;
  region5 = omega arith;
  region6 = omega arith;
  region7 = omega arith;
}

pub call_small : (w : ℕ) → SmallCall (fields_in call w)
unfolding call
call_small w = record { partition = omega arith; slot = omega arith; other = omega arith; line = omega arith }

-- ── the fields of the zero word: nothing is present, and every number is 0 ──
pub header_zero : fields_in header 0 ≡ record { present = false; parent = record { 0 = 0 }; start = record { 0 = 0 }; end = record { 0 = 0 } }
unfolding header
header_zero = refl

pub structure_zero : fields_in structure 0 ≡ record { present = false; start = record { 0 = 0 }; end = record { 0 = 0 } }
unfolding structure
structure_zero = refl

pub slot_zero : fields_in slot 0 ≡ record { present = false; opened = false; rights = record { read = false; write = false; execute = false }; given = record { 0 = 0 }; start = record { 0 = 0 }; end = record { 0 = 0 }; whole = false }
unfolding slot
slot_zero = refl

abbrev pub no_regions : RegionsFields
no_regions = record {
  region0 = no_region;
  region1 = no_region;
  region2 = no_region;
  region3 = no_region;
  region4 = no_region;
  region5 = no_region;
  region6 = no_region;
  region7 = no_region;
}

pub regions_zero : fields_in regions 0 ≡ no_regions
unfolding regions
regions_zero = refl

-- .. and eight of them are written as the zero word
pub no_regions_word : word_of regions no_regions ≡ 0
no_regions_word = ap (word_of regions) (sym regions_zero) ∙ zero_back regions_lawful

-- ── what stands for children in a word is below 2^16 ──
pub masks_few : (w : ℕ) → (fields_in masks w).children < 2 ^ 16
unfolding masks
masks_few w = omega arith

-- ── a slot has no zero bit ──
pub slot_zeroed : (w : ℕ) → Zeroed slot w
unfolding slot
slot_zeroed w = tt

-- ── what the reader of a call word answers ──
pub call_reading : (w : ℕ) → reading call w ≡ cond (zeroed call w) (Ok (fields_in call w)) (Err BadWord)
unfolding call
call_reading w = refl
