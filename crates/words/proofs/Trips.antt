-- Packed words round-trip both ways: each kind, by the one law of Kind.
use Rattle.words.specs.Kind.{RoundTrips}
use Rattle.words.specs.Laws.Kind.{round_trips}
use Rattle.words.specs.Words.{first, header, structure, regions, slot, call, boot, masks, lines, mark}
use Rattle.words.specs.Laws.Kinds.{first_lawful, header_lawful, structure_lawful, regions_lawful, slot_lawful, call_lawful, boot_lawful, masks_lawful, lines_lawful, mark_lawful}

pub first_trips : RoundTrips first
first_trips = round_trips first_lawful

pub header_trips : RoundTrips header
header_trips = round_trips header_lawful

pub structure_trips : RoundTrips structure
structure_trips = round_trips structure_lawful

pub regions_trips : RoundTrips regions
regions_trips = round_trips regions_lawful

pub slot_trips : RoundTrips slot
slot_trips = round_trips slot_lawful

pub call_trips : RoundTrips call
call_trips = round_trips call_lawful

pub boot_trips : RoundTrips boot
boot_trips = round_trips boot_lawful

pub masks_trips : RoundTrips masks
masks_trips = round_trips masks_lawful

pub lines_trips : RoundTrips lines
lines_trips = round_trips lines_lawful

pub mark_trips : RoundTrips mark
mark_trips = round_trips mark_lawful
