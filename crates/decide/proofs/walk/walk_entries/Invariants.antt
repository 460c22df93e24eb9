-- src/walk.rt, walk_entries: WalkSays t.now order.now.slots order.now.counts mark.now (q.0 + 1) 0 result next.new
use Rattle.decide.specs.Walk.{WalkedTo}
use Rattle.decide.proofs.walk.walk_entries.Given as goal

abbrev pub invariant-loop-j : goal.invariant-loop-j
invariant-loop-j l = WalkedTo l.t l.order.slots l.order.counts l.mark l.q.0 l.j l.next
