-- src/clear_service.rt, clear_children: Cleared t.old p.0 (result + 1) t.new; clear_partition: Cleared t.old p.0 result t.new
use Prim.Native.Nat.{◌+◌, ◌*◌}
use Rattle.tables.specs.View.{view}
use Rattle.services.specs.Laws.ClearExits.{left, Emptying}
use Rattle.services.proofs.clear_service.+clear_children_clear_partition.Given as goal

-- a partition's record is cleared before its children are walked, so each call of `clear_partition` has one present record fewer
abbrev pub decreases-clear_children : goal.decreases-clear_children
decreases-clear_children l = 2 * left l.t.now + 1

abbrev pub decreases-clear_partition : goal.decreases-clear_partition
decreases-clear_partition l = 2 * left l.t.now

abbrev pub invariant-clear_children-loop-q : goal.invariant-clear_children-loop-q
invariant-clear_children-loop-q l = Emptying (view l.initial.t) l.p.0 l.q l.n l.t
