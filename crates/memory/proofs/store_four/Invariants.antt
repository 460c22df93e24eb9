-- src/lib.rt, store_four: Wrote (byte_of t.now) b.old (8 * k) (8 * k + 32) b.new
use Prim.Native.Nat.{◌+◌, ◌*◌}
use Rattle.memory.specs.Bytes.{byte_of}
use Rattle.memory.specs.ByteRecords.{Wrote}
use Rattle.memory.proofs.store_four.Given as goal

abbrev pub invariant-loop-o : goal.invariant-loop-o
invariant-loop-o l = Wrote (byte_of l.t) l.initial.b (8 * l.k) (8 * l.k + 8 * l.o) l.b
