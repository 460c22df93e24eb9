-- src/pieces.rt, piece_at: Pieced (view t.now).k order.now l.0 result places.new way.new
use Rattle.tables.specs.View.{view}
use Rattle.runs.specs.Laws.Ways.{Walking}
use Rattle.runs.proofs.pieces.piece_at.Given as goal

abbrev pub invariant-loop-d : goal.invariant-loop-d
invariant-loop-d l = Walking (view l.t).k l.order l.l.0 l.p.0 l.end.0 l.d l.places l.way
