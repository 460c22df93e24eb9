-- src/lib.rt, compare_each: ComparedTo sheet.now t.now 16 (all 16 (shape_at t.now)) result same.new
use mathlib.Core.Path.{ap, sym, ◌∙◌}
use mathlib.Core.Bool.{not}
use Rattle.loops.specs.Laws.Scan.{seek_start, seek_hit, seek_on, seek_end}
use Rattle.comparing.specs.Laws.Once.{same_up_to, compared_refused, compared_passed}
use native.Mathlib.Omega.{arith}
use Rattle.comparing.proofs.compare_each.Goals as goal

pub loop-p-init : goal.loop-p-init
loop-p-init c = (seek_start, c.requires.4)

pub compare_partition-requires : goal.compare_partition-requires
compare_partition-requires c = let asked = c.requires in (asked.0, asked.1, omega arith, asked.2, asked.3, c.loop-p.invariant.1)

pub returns-then-not-compare_partition : goal.returns-then-not-compare_partition
returns-then-not-compare_partition c = compared_refused (seek_hit c.loop-p.invariant.0 (omega arith) (ap not (sym c.compare_partition.ensures.says) ∙ (ap not c.if-not-compare_partition.true)))

pub loop-p-preserved : goal.loop-p-preserved
loop-p-preserved c =
    let compared = c.compare_partition.ensures in
    (seek_on c.loop-p.invariant.0 (omega arith) (ap not (sym compared.says) ∙ (ap not c.if-not-compare_partition.false)), compared.same c.if-not-compare_partition.false)

pub returns : goal.returns
returns c = let turn = c.loop-p in compared_passed (seek_end turn.invariant.0 (omega arith)) (same_up_to _ _ (omega (arith, turn.invariant.0.within)) turn.invariant.1)
