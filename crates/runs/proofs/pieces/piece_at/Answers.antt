-- src/pieces.rt, piece_at: Pieced (view t.now).k order.now l.0 result places.new way.new
-- `runs::pieces::piece_at` meets its contract: at each turn the descent from p comes to the same piece as from the root.
use mathlib.Core.Path.{◌≡◌}
use native.Mathlib.Omega.{arith}
use Rattle.runs.specs.Laws.Pieces.{stop_small}
use Rattle.runs.specs.Laws.Ways.{walk_from_mark, walk_here, low_small, walk_down, walk_last}
use Rattle.runs.proofs.pieces.piece_at.Goals as goal

pub loop-d-init : goal.loop-d-init
loop-d-init c = walk_from_mark c.requires.2 c.climb-kept.ensures c.fields-step.ensures

pub returns-then-q-eq0 : goal.returns-then-q-eq0
returns-then-q-eq0 c = walk_here c.requires.0 c.loop-d.invariant c.hop_at-h.ensures.0 c.lower-end.ensures c.hop_at-h.ensures.1 (omega arith) c.if-q-eq0.true

pub mark_of-requires : goal.mark_of-requires
mark_of-requires c = (
  low_small c.requires.0 c.loop-d.invariant c.hop_at-h.ensures.0 c.lower-end.ensures c.hop_at-h.ensures.1 (omega arith) (stop_small c.args.t.now),
  c.hop_at-h.ensures.0.small,
)

pub loop-d-preserved : goal.loop-d-preserved
loop-d-preserved c = walk_down c.requires.0 c.loop-d.invariant c.hop_at-h.ensures.0 c.lower-end.ensures c.hop_at-h.ensures.1 (omega arith) (stop_small c.args.t.now) c.mark_of.ensures c.if-q-eq0.false

pub returns : goal.returns
returns c =
    let d : c.loop-d.d ≡ 15 = omega (arith, c.loop-d.invariant.way.deep) in
    rw d at (walk_last c.requires.0 c.loop-d.invariant (omega arith))
