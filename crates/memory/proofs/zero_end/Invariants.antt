-- src/lib.rt, zero_end: ZeroEnd b.now (1 + 40 * result)
use Prim.Native.Nat.{◌+◌, ◌*◌}
use Rattle.memory.specs.ByteRecords.{ZeroEnd}
use Rattle.memory.proofs.zero_end.Given as goal

abbrev pub invariant-loop-p : goal.invariant-loop-p
invariant-loop-p l = ZeroEnd l.b (1 + 40 * l.p)
