-- src/clear_service.rt, clear_children: Cleared t.old p.0 (result + 1) t.new; clear_partition: Cleared t.old p.0 result t.new
use mathlib.Core.Path.{sym, ◌∙◌}
use native.Mathlib.Omega.{arith}
use Rattle.tables.specs.Laws.Encode.{is_canon}
use Rattle.tables.specs.Laws.FitView.{fit_view}
use Rattle.services.specs.Laws.ClearExits.{cleared_few, zero_now, left_falls, cleared_all, child_left, empty_start, empty_few, empty_left, empty_no, empty_yes, empty_end}
use Rattle.services.proofs.clear_service.+clear_children_clear_partition.Goals as goal
use Rattle.services.proofs.clear_service.+clear_children_clear_partition.Goals.{clear_children-then-is_child, clear_children-else-is_child}

pub clear_children-loop-q-init : goal.clear_children-loop-q-init
clear_children-loop-q-init t c = empty_start c.requires.1 c.requires.0

pub clear_children-clear_partition-n-requires : goal.clear_children-clear_partition-n-requires
clear_children-clear_partition-n-requires t c =
    let (n, there) = child_left _ _ _ (sym c.is_child.ensures ∙ c.if-is_child.true) in
    (omega (arith, empty_left c.loop-q.invariant), (is_canon c.loop-q.invariant.is, omega arith, n, there))

pub clear_children-overflow_add-n : goal.clear_children-overflow_add-n
clear_children-overflow_add-n t c = omega (arith, empty_few c.loop-q.invariant, cleared_few c.clear_partition-n.ensures)

pub clear_children-loop-q-preserved : goal.clear_children-loop-q-preserved
clear_children-loop-q-preserved t c =
    elim c.if-is_child.branch [
      | clear_children-then-is_child w ↦ empty_yes c.loop-q.invariant (fit_view (is_canon c.requires.0.is)) (sym c.is_child.ensures ∙ w.if-is_child.true) w.clear_partition-n.ensures w.t-is w.n-is
      | clear_children-else-is_child w ↦ empty_no c.loop-q.invariant c.requires.2 (sym c.is_child.ensures ∙ w.if-is_child.false) w.t-is w.n-is
    ]

pub clear_children-returns : goal.clear_children-returns
clear_children-returns t c = empty_end c.loop-q.invariant (is_canon c.requires.0.is) c.requires.1 c.requires.2 (omega arith)

pub clear_partition-clear_children-requires : goal.clear_partition-clear_children-requires
clear_partition-clear_children-requires t c =
    (omega (arith, left_falls _ _ c.clear_record.ensures c.requires.1 c.requires.3), (zero_now _ _ c.clear_record.ensures, c.requires.1, c.requires.2))

pub clear_partition-overflow_add-result : goal.clear_partition-overflow_add-result
clear_partition-overflow_add-result t c = omega (arith, cleared_few c.clear_children.ensures)

pub clear_partition-returns : goal.clear_partition-returns
clear_partition-returns t c = cleared_all _ _ c.clear_record.ensures c.requires.2 c.clear_children.ensures
