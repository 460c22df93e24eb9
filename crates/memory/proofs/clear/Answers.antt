-- src/lib.rt, clear: Wrote (λ n. 0) b.old i end b.new
use mathlib.Core.Path.{refl}
use Rattle.memory.specs.Laws.ByteRecords.{wrote_byte}
use native.Mathlib.Omega.{arith}
use Rattle.memory.proofs.clear.Goals as goal

pub loop-n-preserved : goal.loop-n-preserved
loop-n-preserved c = wrote_byte c.loop-n.invariant (omega arith) (omega arith) refl
