-- src/lib.rt, clear: Wrote (λ n. 0) b.old i end b.new
use Rattle.memory.specs.ByteRecords.{Wrote}
use Rattle.memory.proofs.clear.Given as goal

abbrev pub invariant-loop-n : goal.invariant-loop-n
invariant-loop-n l = Wrote (λ m. 0) l.initial.b l.i l.n l.b
