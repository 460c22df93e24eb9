-- src/records.rt, slots_sound: result ≡ all 32 (s5_slot t.now (view t.now).k p.0)
use mathlib.Core.Path.{ap, sym, ◌∙◌}
use mathlib.Core.Bool.{not}
use Rattle.loops.specs.Laws.Scan.{seek_start, seek_hit, seek_on, seek_end}
use Rattle.shape.specs.Laws.Records.{slots_each}
use native.Mathlib.Omega.{arith}
use Rattle.shape.proofs.records.slots_sound.Goals as goal

pub loop-j-init : goal.loop-j-init
loop-j-init c = seek_start

pub returns-then-not-structure_slots : goal.returns-then-not-structure_slots
returns-then-not-structure_slots c = seek_hit c.loop-j.invariant (omega arith) (ap not (sym c.structure_slots.ensures) ∙ (ap not c.if-not-structure_slots.true)) ∙ slots_each _ _ _

pub loop-j-preserved : goal.loop-j-preserved
loop-j-preserved c = seek_on c.loop-j.invariant (omega arith) (ap not (sym c.structure_slots.ensures) ∙ (ap not c.if-not-structure_slots.false))

pub returns : goal.returns
returns c = seek_end c.loop-j.invariant (omega arith) ∙ slots_each _ _ _
