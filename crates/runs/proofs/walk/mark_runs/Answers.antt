-- src/walk.rt, mark_runs: (result ≡ length (runs_of (view t.now).k)) × (marks.new ≡ marks_over 513 (view t.now).k marks.old)
-- `runs::walk::mark_runs` meets its contract: at each turn the marks are those of the runs behind, and the way is that of the line.
use mathlib.Core.Path.{sym}
use native.Mathlib.Omega.{arith}
use Rattle.runs.specs.Laws.Pieces.{stop_small}
use Rattle.runs.specs.Laws.Marks.{walk_begins, standing, walk_past_piece, walk_nearer, marks_few, runs_mark_end}
use Rattle.runs.proofs.walk.mark_runs.Goals as goal

pub mark_of-top-requires : goal.mark_of-top-requires
mark_of-top-requires c = (omega (arith, c.first-f.ensures.end_small), omega arith)

pub loop-at-init : goal.loop-at-init
loop-at-init c = walk_begins c.requires.0 (stop_small c.args.t.now) c.requires.2 (sym c.first-f.ensures.base) (sym c.first-f.ensures.stop) c.mark_of-top.ensures

pub piece_at-c-requires : goal.piece_at-c-requires
piece_at-c-requires c = (c.requires.0, c.requires.1, standing c.loop-at.invariant (omega (arith, c.first-f.ensures.stop, c.loop-at-test.true)))

pub mark-n-requires : goal.mark-n-requires
mark-n-requires c = (
  c.loop-at.invariant.marking.size,
  marks_few c.requires.0 c.loop-at.invariant.marking,
  omega (arith, c.loop-at-test.true, c.first-f.ensures.end_small),
  c.piece_at-c.ensures.small,
)

pub loop-at-smaller : goal.loop-at-smaller
loop-at-smaller c = rw c.first-f.ensures.stop at (walk_nearer c.loop-at.invariant (omega (arith, c.first-f.ensures.stop, c.loop-at-test.true)) c.piece_at-c.ensures.end)

pub loop-at-preserved : goal.loop-at-preserved
loop-at-preserved c = walk_past_piece c.loop-at.invariant c.requires.0 (stop_small c.args.t.now) (omega (arith, c.first-f.ensures.stop, c.loop-at-test.true)) c.piece_at-c.ensures c.mark-n.ensures

pub mark_of-requires : goal.mark_of-requires
mark_of-requires c = (omega (arith, c.loop-at.invariant.marking.to, c.first-f.ensures.stop, c.first-f.ensures.end_small), omega arith)

pub offset_bounds-marks-n : goal.offset_bounds-marks-n
offset_bounds-marks-n c = omega (arith, marks_few c.requires.0 c.loop-at.invariant.marking)

pub bounds-marks-n : goal.bounds-marks-n
bounds-marks-n c = omega (arith, marks_few c.requires.0 c.loop-at.invariant.marking, c.loop-at.invariant.marking.size)

pub returns : goal.returns
returns c = runs_mark_end c.requires.0 c.loop-at.invariant.marking (omega (arith, c.first-f.ensures.stop, c.loop-at-test.false)) (stop_small c.args.t.now) c.mark_of.ensures
