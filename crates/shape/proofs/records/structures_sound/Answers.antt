-- src/records.rt, structures_sound: result ≡ all 4 (structure_test t.now (view t.now).k p.0)
use mathlib.Core.Path.{ap, sym, ◌∙◌}
use mathlib.Core.Bool.{not}
use Rattle.loops.specs.Laws.Scan.{seek_start, seek_hit, seek_on, seek_end}
use native.Mathlib.Omega.{arith}
use Rattle.shape.proofs.records.structures_sound.Goals as goal

pub loop-j-init : goal.loop-j-init
loop-j-init c = seek_start

pub returns-then-not-structure_sound : goal.returns-then-not-structure_sound
returns-then-not-structure_sound c = seek_hit c.loop-j.invariant (omega arith) (ap not (sym c.structure_sound.ensures) ∙ (ap not c.if-not-structure_sound.true))

pub loop-j-preserved : goal.loop-j-preserved
loop-j-preserved c = seek_on c.loop-j.invariant (omega arith) (ap not (sym c.structure_sound.ensures) ∙ (ap not c.if-not-structure_sound.false))

pub returns : goal.returns
returns c = seek_end c.loop-j.invariant (omega arith)
