-- src/lib.rt, mark_areas: MarkSays (view t.now).k (5 * (p.0 + 1)) result mark.new
use Prim.Native.Nat.{◌+◌, ◌*◌}
use Rattle.tables.specs.View.{view}
use Rattle.marking.specs.Marking.{MarkedTo}
use Rattle.marking.proofs.mark_areas.Given as goal

abbrev pub invariant-loop-j : goal.invariant-loop-j
invariant-loop-j l = MarkedTo (view l.t).k (5 * l.p.0 + l.j) l.mark
