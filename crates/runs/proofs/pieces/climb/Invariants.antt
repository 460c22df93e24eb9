-- src/pieces.rt, climb: Climbed way.now depth l.0 result
use Rattle.runs.specs.Ways.{Climbing}
use Rattle.runs.proofs.pieces.climb.Given as goal

abbrev pub invariant-loop-d : goal.invariant-loop-d
invariant-loop-d l = Climbing l.way l.depth l.l.0 l.d
