-- src/early.rt, lowest: result ≡ lowest_of board t.now 96
use native.Mathlib.Omega.{arith}
use Rattle.verdict.proofs.Laws.Stages.{cleared_start, cleared_reached, cleared_hit, cleared_on, cleared_end}
use mathlib.Core.Path.{ap}
use mathlib.Core.Bool.{not}
use Rattle.verdict.proofs.early.lowest.Goals as goal

pub loop-m-init : goal.loop-m-init
loop-m-init c = cleared_start

pub holds-requires : goal.holds-requires
holds-requires c = (omega arith, omega arith, cleared_reached c.loop-m.invariant (omega arith))

pub returns-then-not-holds : goal.returns-then-not-holds
returns-then-not-holds c = cleared_hit c.loop-m.invariant c.holds.ensures 96 (omega arith) (ap not c.if-not-holds.true)

pub loop-m-preserved : goal.loop-m-preserved
loop-m-preserved c = cleared_on c.loop-m.invariant c.holds.ensures (ap not c.if-not-holds.false)

pub returns : goal.returns
returns c = cleared_end c.loop-m.invariant 96 (omega arith)
