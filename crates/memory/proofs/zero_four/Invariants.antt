-- src/lib.rt, zero_four: result ≡ zero_four b.now i
use Prim.Native.Nat.{◌+◌, ◌*◌}
use Rattle.loops.specs.Laws.Oring.{Oring}
use Rattle.memory.specs.Quads.{quad_at}
use Rattle.memory.proofs.zero_four.Given as goal

abbrev pub invariant-loop-q : goal.invariant-loop-q
invariant-loop-q l = Oring (λ k. quad_at l.b (l.i + 4 * k)) 8 l.q l.x
