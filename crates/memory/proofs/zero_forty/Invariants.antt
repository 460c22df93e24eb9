-- src/lib.rt, zero_forty: result ≡ zero_forty b.now i
use mathlib.Core.Path.{◌≡◌}
use Prim.Native.Nat.{◌+◌, ◌*◌}
use Rattle.loops.specs.Loops.{all}
use Rattle.memory.specs.Quads.{zero_four}
use Rattle.memory.proofs.zero_forty.Given as goal

abbrev pub invariant-loop-g : goal.invariant-loop-g
invariant-loop-g l = l.zero ≡ all l.g (λ g. zero_four l.b (l.i + 32 * g))
