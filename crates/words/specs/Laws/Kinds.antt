-- Which fields of each kind are in range; each kind is lawful; and a mark fits 32 bits.
use Rattle.std.specs.Prelude.{◌≡◌, refl, ℕ, ◌^◌, ◌<◌, Ok}
use Rattle.std.proofs.Common.{ap, arith}
use Rattle.loops.specs.Laws.Bit.{flag_bit, bit_mod, bit_lt}
use Rattle.words.specs.Kind.{fields_in, word_of, reading, InRange, Lawful}
use Rattle.words.specs.Laws.Kind.{fields_back, round_trips}
use Rattle.words.specs.Words.{first, header, structure, regions, slot, call, boot, masks, lines, mark}
use Rattle.words.specs.declared.boot_word.BootFields.{BootFields}
use Rattle.words.specs.declared.call_word.CallFields.{CallFields}
use Rattle.words.specs.declared.first_word.FirstFields.{FirstFields}
use Rattle.words.specs.declared.header_word.HeaderFields.{HeaderFields}
use Rattle.words.specs.declared.lines_word.LinesFields.{LinesFields}
use Rattle.words.specs.declared.mark_word.MarkFields.{MarkFields}
use Rattle.words.specs.declared.masks_word.MasksFields.{MasksFields}
use Rattle.words.specs.declared.regions_word.RegionsFields.{RegionsFields}
use Rattle.words.specs.declared.slot_word.SlotFields.{SlotFields}
use Rattle.words.specs.declared.structure_word.StructureFields.{StructureFields}
use Rattle.words.specs.Kinds.{line_in, holder_in, mark_for}

-- ── in range: no field is too wide (a flag never is) ──
pub first_range : (f : FirstFields) → f.base.0 < 2 ^ 27 → f.end.0 < 2 ^ 27 → f.current.0 < 16 → InRange first f
unfolding first
first_range f a b c = (a, (b, (c, tt)))

pub header_range : (f : HeaderFields) → f.parent.0 < 16 → f.start.0 < 2 ^ 27 → f.end.0 < 2 ^ 27 → InRange header f
unfolding header
header_range f a b c = search bit_lt

pub structure_range : (f : StructureFields) → f.start.0 < 2 ^ 27 → f.end.0 < 2 ^ 27 → InRange structure f
unfolding structure
structure_range f a b = search bit_lt

pub regions_range : (f : RegionsFields) → f.region0.slot.0 < 32 → f.region1.slot.0 < 32 → f.region2.slot.0 < 32 → f.region3.slot.0 < 32
    → f.region4.slot.0 < 32 → f.region5.slot.0 < 32 → f.region6.slot.0 < 32 → f.region7.slot.0 < 32 → InRange regions f
unfolding regions
regions_range f a b c d e g h i =
    (bit_lt f.region0.loaded, (a, (bit_lt f.region1.loaded, (b, (bit_lt f.region2.loaded, (c, (bit_lt f.region3.loaded, (d, (bit_lt f.region4.loaded, (e, (bit_lt f.region5.loaded, (g, (bit_lt f.region6.loaded, (h, (bit_lt f.region7.loaded, (i, tt))))))))))))))))

pub slot_range : (f : SlotFields) → f.given.0 < 16 → f.start.0 < 2 ^ 27 → f.end.0 < 2 ^ 27 → InRange slot f
unfolding slot
slot_range f a b c = search bit_lt

pub call_range : (f : CallFields) → f.service < 16 → f.partition.0 < 16 → f.slot.0 < 32 → f.other < 32 → f.line.0 < 2 ^ 27 → InRange call f
unfolding call
call_range f a b c d e = search bit_lt

pub boot_range : (f : BootFields) → f.base.0 < 2 ^ 27 → f.end.0 < 2 ^ 27 → InRange boot f
unfolding boot
boot_range f a b = (a, (b, tt))

pub masks_range : (f : MasksFields) → f.children < 2 ^ 16 → f.slots < 2 ^ 32 → f.structures < 16 → InRange masks f
unfolding masks
masks_range f a b c = (a, (b, (c, tt)))

pub lines_range : (f : LinesFields) → f.held < 2 ^ 27 → f.opened < 2 ^ 27 → InRange lines f
unfolding lines
lines_range f a b = (a, (b, tt))

pub mark_range : (f : MarkFields) → f.line.0 < 2 ^ 27 → f.holder.0 < 16 → InRange mark f
unfolding mark
mark_range f a b = (a, (b, tt))

-- ── lawful ──
pub first_lawful : Lawful first
unfolding first
first_lawful = record { whole = refl; of_list = λ f. refl; list_of = λ w. refl }

pub header_lawful : Lawful header
unfolding header
header_lawful = record { whole = refl; of_list = λ f. simp flag_bit; list_of = λ w. simp bit_mod }

pub structure_lawful : Lawful structure
unfolding structure
structure_lawful = record { whole = refl; of_list = λ f. simp flag_bit; list_of = λ w. simp bit_mod }

pub regions_lawful : Lawful regions
unfolding regions
regions_lawful = record { whole = refl; of_list = λ f. simp flag_bit; list_of = λ w. simp bit_mod }

pub slot_lawful : Lawful slot
unfolding slot
slot_lawful = record { whole = refl; of_list = λ f. simp flag_bit; list_of = λ w. simp bit_mod }

pub call_lawful : Lawful call
unfolding call
call_lawful = record { whole = refl; of_list = λ f. simp flag_bit; list_of = λ w. simp bit_mod }

pub boot_lawful : Lawful boot
unfolding boot
boot_lawful = record { whole = refl; of_list = λ f. refl; list_of = λ w. refl }

pub masks_lawful : Lawful masks
unfolding masks
masks_lawful = record { whole = refl; of_list = λ f. refl; list_of = λ w. refl }

pub lines_lawful : Lawful lines
unfolding lines
lines_lawful = record { whole = refl; of_list = λ f. refl; list_of = λ w. refl }

pub mark_lawful : Lawful mark
unfolding mark
mark_lawful = record { whole = refl; of_list = λ f. refl; list_of = λ w. refl }

-- ── the words of a sheet ──
-- fields that were written are read
pub masks_read : (f : MasksFields) → InRange masks f → reading masks (word_of masks f) ≡ Ok f
unfolding masks
masks_read f h = ((round_trips masks_lawful).values f h).1

pub lines_read : (f : LinesFields) → InRange lines f → reading lines (word_of lines f) ≡ Ok f
unfolding lines
lines_read f h = ((round_trips lines_lawful).values f h).1

-- ── marks ──
-- a mark fits 32 bits
pub mark_small : (f : MarkFields) → f.line.0 < 2 ^ 27 → f.holder.0 < 16 → word_of mark f < 2 ^ 32
unfolding mark
mark_small f a b = omega arith

module _ (l p : ℕ) (a : l < 2 ^ 27) (b : p < 16) where
  mark_back : fields_in mark (mark_for l p) ≡ record { line = record { 0 = l }; holder = record { 0 = p } }
  mark_back = fields_back mark_lawful _ (mark_range _ a b)

  pub line_in_law : line_in (mark_for l p) ≡ l
  line_in_law = ap (λ (f : MarkFields). f.line.0) mark_back

  pub holder_in_law : holder_in (mark_for l p) ≡ p
  holder_in_law = ap (λ (f : MarkFields). f.holder.0) mark_back
