-- src/lib.rt, store: b.new ≡ bytes_of t.now
use Prim.Native.Nat.{◌+◌, ◌*◌}
use Rattle.memory.specs.Bytes.{byte_of}
use Rattle.memory.specs.ByteRecords.{Wrote}
use Rattle.memory.proofs.store.Given as goal

abbrev pub invariant-loop-p : goal.invariant-loop-p
invariant-loop-p l = Wrote (byte_of l.t) l.initial.b 8 (8 + 320 * l.p) l.b
