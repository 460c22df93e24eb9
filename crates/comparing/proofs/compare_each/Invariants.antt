-- src/lib.rt, compare_each: ComparedTo sheet.now t.now 16 (all 16 (shape_at t.now)) result same.new
use Rattle.loops.specs.Laws.Every.{Passing}
use Rattle.shape.specs.AtOnce.{shape_at}
use Rattle.comparing.specs.Once.{SameTo}
use Rattle.comparing.proofs.compare_each.Given as goal

abbrev pub invariant-loop-p : goal.invariant-loop-p
invariant-loop-p l = Passing (shape_at l.t) 16 l.p × SameTo l.sheet l.t l.p l.same
