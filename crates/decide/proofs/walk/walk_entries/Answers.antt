-- src/walk.rt, walk_entries: WalkSays t.now order.now.slots order.now.counts mark.now (q.0 + 1) 0 result next.new
use native.Mathlib.Omega.{arith}
use Rattle.decide.specs.Laws.Walk.{row_done, walk_says, walk_fails}
use mathlib.Core.Path.{ap}
use mathlib.Core.Bool.{not}
use Rattle.decide.proofs.walk.walk_entries.Goals as goal

pub loop-j-init : goal.loop-j-init
loop-j-init c = c.requires.1

pub walk_entry-requires : goal.walk_entry-requires
walk_entry-requires c =
    let h = c.requires in
    record { can = h.0; walked = c.loop-j.invariant; in_q = h.2; there = h.3; next = omega arith }

pub returns-then-not-walk_entry : goal.returns-then-not-walk_entry
returns-then-not-walk_entry c = walk_fails c.walk_entry.ensures (ap not c.if-not-walk_entry.true)

pub loop-j-preserved : goal.loop-j-preserved
loop-j-preserved c = c.walk_entry.ensures.on c.if-not-walk_entry.false

pub returns : goal.returns
returns c = walk_says (row_done c.requires.0 c.loop-j.invariant (omega arith) (omega arith))
