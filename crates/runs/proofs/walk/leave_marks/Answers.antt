-- src/walk.rt, leave_marks: (result ≡ length (runs_of (view t.old).k)) × (t.new ≡ marks_over 641 (view t.old).k t.old)
use mathlib.Core.Path.{refl, ap, ◌∙◌}
use lib.ListN.{length, replicate}
use native.Mathlib.Omega.{arith}
use Rattle.loops.specs.Laws.Rewrite.{length_tab}
use Rattle.runs.specs.Laws.Bound.{runs_bound}
use Rattle.runs.specs.Laws.Marks.{kept_marks}
use Rattle.runs.proofs.walk.leave_marks.Goals as goal

pub mark_runs-n-requires : goal.mark_runs-n-requires
mark_runs-n-requires c = (c.requires.0, c.requires.1, refl)

pub keep-requires : goal.keep-requires
keep-requires c = (ap length c.mark_runs-n.ensures.1 ∙ length_tab 513 _, omega (arith, c.mark_runs-n.ensures.0, runs_bound c.requires.0), c.sized.ensures)

pub returns : goal.returns
returns c = (c.mark_runs-n.ensures.0, c.keep.ensures ∙ kept_marks (replicate 513 0) c.args.t.now c.requires.0 c.mark_runs-n.ensures.0 c.mark_runs-n.ensures.1)
