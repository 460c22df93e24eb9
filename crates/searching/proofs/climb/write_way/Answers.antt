-- src/climb.rt, write_way: WayWritten way list.old result list.new
use native.Mathlib.Omega.{arith}
use borrow.Author.Rules.{rules}
use Rattle.tables.specs.Laws.WayUp.{write_start, same_room, set_room, write_more, write_end}
use Rattle.searching.proofs.climb.write_way.Goals as goal

pub loop-left-init : goal.loop-left-init
loop-left-init c = write_start (omega arith)

pub bounds-list-n : goal.bounds-list-n
bounds-list-n c = let h = c.loop-left.invariant in omega (arith, same_room h c.requires, h.few)

pub overflow_add-n : goal.overflow_add-n
overflow_add-n c = let h = c.loop-left.invariant in search rules

pub shape_of-list-then-left-eq0 : goal.shape_of-list-then-left-eq0
shape_of-list-then-left-eq0 c = set_room c.loop-left.invariant c.requires _

pub returns-then-left-eq0 : goal.returns-then-left-eq0
returns-then-left-eq0 c = write_end c.loop-left.invariant c.requires c.if-left-eq0.true

pub loop-left-preserved : goal.loop-left-preserved
loop-left-preserved c = write_more c.loop-left.invariant c.requires c.if-left-eq0.false
