-- src/pieces.rt, widest: result ≡ widest start end
use Prim.Native.Nat.{◌-◌}
use Rattle.shapes.proofs.Laws.Widest.{Growing}
use Rattle.shapes.proofs.pieces.widest.Given as goal

abbrev pub invariant-loop-rest : goal.invariant-loop-rest
invariant-loop-rest l = Growing l.start l.end l.lines l.rest

abbrev pub decreases-loop-rest : goal.decreases-loop-rest
decreases-loop-rest l = l.end - l.lines
