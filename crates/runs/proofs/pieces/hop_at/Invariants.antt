-- src/pieces.rt, hop_at: Hopped (view t.now).k l.0 p.0 result × Passed (view t.now).k order.now l.0 places.new
use Rattle.tables.specs.View.{view}
use Rattle.runs.specs.Laws.Places.{Hopping}
use Rattle.runs.proofs.pieces.hop_at.Given as goal

abbrev pub invariant-loop-a : goal.invariant-loop-a
invariant-loop-a l = Hopping (view l.t).k l.order l.l.0 l.p.0 l.a l.places
