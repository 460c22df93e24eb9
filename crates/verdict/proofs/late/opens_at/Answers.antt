-- src/late.rt, opens_at: result ≡ s9 (view t.now) p.0
use mathlib.Core.Path.{ap, sym, ◌∙◌}
use mathlib.Core.Bool.{not}
use native.Mathlib.Omega.{arith}
use Rattle.loops.specs.Laws.Scan.{seek_start, seek_hit, seek_on, seek_end}
use Rattle.sound.specs.Clauses.{s9}
use Rattle.verdict.specs.Stages.{open_slot}
use Rattle.verdict.proofs.late.opens_at.Goals as goal

pub loop-i-init : goal.loop-i-init
unfolding s9 open_slot
loop-i-init c = seek_start

pub open_slot-requires : goal.open_slot-requires
unfolding s9 open_slot
open_slot-requires c = let h = c.requires in (h.0, omega arith, h.1, h.2)

pub returns-then-not-open_slot : goal.returns-then-not-open_slot
unfolding s9 open_slot
returns-then-not-open_slot c = seek_hit c.loop-i.invariant (omega arith) (ap not (sym c.open_slot.ensures) ∙ (ap not c.if-not-open_slot.true))

pub loop-i-preserved : goal.loop-i-preserved
unfolding s9 open_slot
loop-i-preserved c = seek_on c.loop-i.invariant (omega arith) (ap not (sym c.open_slot.ensures) ∙ (ap not c.if-not-open_slot.false))

pub returns : goal.returns
unfolding s9 open_slot
returns c = seek_end c.loop-i.invariant (omega arith)
