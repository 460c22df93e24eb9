-- src/walk.rt, walk: WalkSays t.now order.now.slots order.now.counts mark.now 16 0 result next.new
use Rattle.decide.specs.Walk.{WalkedTo}
use Rattle.decide.proofs.walk.walk.Given as goal

abbrev pub invariant-loop-q : goal.invariant-loop-q
invariant-loop-q l = WalkedTo l.t l.order.slots l.order.counts l.mark l.q 0 l.next
