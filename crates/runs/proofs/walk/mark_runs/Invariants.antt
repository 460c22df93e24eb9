-- src/walk.rt, mark_runs: (result ≡ length (runs_of (view t.now).k)) × (marks.new ≡ marks_over 513 (view t.now).k marks.old)
use Prim.Native.Nat.{◌-◌}
use Rattle.tables.specs.View.{view}
use Rattle.runs.specs.Laws.Marks.{Walk}
use Rattle.runs.proofs.walk.mark_runs.Given as goal

abbrev pub invariant-loop-at : goal.invariant-loop-at
invariant-loop-at l = Walk (view l.t).k l.order l.initial.marks l.at.0 l.n l.last.0 l.depth l.places l.way l.marks

abbrev pub decreases-loop-at : goal.decreases-loop-at
decreases-loop-at l = l.f.end.0 - l.at.0
