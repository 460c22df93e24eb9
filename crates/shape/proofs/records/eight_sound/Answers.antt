-- src/records.rt, eight_sound: result ≡ slots_test t.now (view t.now).k p.0 j
use mathlib.Core.Path.{ap, sym, ◌∙◌}
use mathlib.Core.Bool.{not}
use Rattle.loops.specs.Laws.Scan.{seek_start, seek_hit, seek_on, seek_end}
use Rattle.shape.specs.Records.{slots_test}
use Rattle.shape.specs.Laws.Records.{eight_in}
use native.Mathlib.Omega.{arith}
use Rattle.shape.proofs.records.eight_sound.Goals as goal

pub loop-o-init : goal.loop-o-init
unfolding slots_test
loop-o-init c = seek_start

pub slot_sound-requires : goal.slot_sound-requires
unfolding slots_test
slot_sound-requires c = (c.requires.0, omega (arith, c.requires.1), eight_in c.requires.2 c.loop-o-test.true)

pub returns-then-not-slot_sound : goal.returns-then-not-slot_sound
unfolding slots_test
returns-then-not-slot_sound c = seek_hit c.loop-o.invariant (omega arith) (ap not (sym c.slot_sound.ensures) ∙ (ap not c.if-not-slot_sound.true))

pub loop-o-preserved : goal.loop-o-preserved
unfolding slots_test
loop-o-preserved c = seek_on c.loop-o.invariant (omega arith) (ap not (sym c.slot_sound.ensures) ∙ (ap not c.if-not-slot_sound.false))

pub returns : goal.returns
unfolding slots_test
returns c = seek_end c.loop-o.invariant (omega arith)
