-- src/pieces.rt, shaped_count: result ≡ length (pieces start end)
use Rattle.shapes.proofs.Laws.Counting.{CountingPieces}
use Rattle.shapes.proofs.pieces.shaped_count.Given as goal

abbrev pub invariant-loop-a : goal.invariant-loop-a
invariant-loop-a l = CountingPieces l.start l.end l.a l.b l.n

abbrev pub decreases-loop-a : goal.decreases-loop-a
decreases-loop-a l = l.b
