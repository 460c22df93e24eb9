-- src/climb.rt, write_way: WayWritten way list.old result list.new
use Rattle.tables.specs.Laws.WayUp.{WayWriting}
use Rattle.searching.proofs.climb.write_way.Given as goal

abbrev pub invariant-loop-left : goal.invariant-loop-left
invariant-loop-left l = WayWriting l.way l.initial.list l.n l.left l.list

abbrev pub decreases-loop-left : goal.decreases-loop-left
decreases-loop-left l = l.left
