-- src/lib.rt, mark_all: MarkSays (view t.now).k 80 result mark.new
use Prim.Native.Nat.{◌*◌}
use Rattle.tables.specs.View.{view}
use Rattle.marking.specs.Marking.{MarkedTo}
use Rattle.marking.proofs.mark_all.Given as goal

abbrev pub invariant-loop-p : goal.invariant-loop-p
invariant-loop-p l = MarkedTo (view l.t).k (5 * l.p) l.mark
