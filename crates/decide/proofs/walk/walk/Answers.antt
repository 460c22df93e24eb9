-- src/walk.rt, walk: WalkSays t.now order.now.slots order.now.counts mark.now 16 0 result next.new
use native.Mathlib.Omega.{arith}
use Rattle.decide.specs.Laws.Walk.{all_done, walk_says, walk_fails}
use mathlib.Core.Path.{ap}
use mathlib.Core.Bool.{not}
use Rattle.decide.proofs.walk.walk.Goals as goal

pub loop-q-init : goal.loop-q-init
loop-q-init c = c.requires.2

pub walk_partition-requires : goal.walk_partition-requires
walk_partition-requires c = (c.requires.1, c.loop-q.invariant, omega (arith, c.requires.0.within))

pub returns-then-not-walk_partition : goal.returns-then-not-walk_partition
returns-then-not-walk_partition c = walk_fails c.walk_partition.ensures (ap not c.if-not-walk_partition.true)

pub loop-q-preserved : goal.loop-q-preserved
loop-q-preserved c = c.walk_partition.ensures.on c.if-not-walk_partition.false

pub returns : goal.returns
returns c = let h = c.requires in walk_says (all_done h.1 h.0 (omega arith) c.loop-q.invariant)
