-- src/lib.rt, shapes_sound: result ≡ all 16 (shape_at t.now)
use Rattle.loops.specs.Laws.Every.{Passing}
use Rattle.shape.specs.AtOnce.{shape_at}
use Rattle.decide.proofs.shapes_sound.Given as goal

abbrev pub invariant-loop-p : goal.invariant-loop-p
invariant-loop-p l = Passing (shape_at l.t) 16 l.p
