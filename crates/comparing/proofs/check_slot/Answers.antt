-- src/lib.rt, check_slot: SlotsChecked t.now p.0 s.0 (s5_slot t.now (view t.now).k p.0 s.0) result
use mathlib.Core.Path.{sym, ◌∙◌, ap}
use Rattle.comparing.specs.Laws.Once.{slot_ranged, checked_refused, checked_passed}
use native.Mathlib.Omega.{arith}
use mathlib.Core.Bool.{not}
use Rattle.comparing.proofs.check_slot.Goals as goal

pub slot_sound-requires : goal.slot_sound-requires
slot_sound-requires c = (c.requires.0, omega (arith, c.requires.2.slots.within), c.requires.1)

pub returns-then-not-slot_sound : goal.returns-then-not-slot_sound
returns-then-not-slot_sound c = checked_refused c.slot_sound.ensures (ap not c.if-not-slot_sound.true)

pub add_slot-requires : goal.add_slot-requires
add_slot-requires c = let asked = c.requires in (asked.0, asked.2, slot_ranged _ _ _ (sym c.slot_sound.ensures ∙ c.if-not-slot_sound.false))

pub returns : goal.returns
returns c = checked_passed c.slot_sound.ensures (ap not c.if-not-slot_sound.false) c.add_slot.ensures
