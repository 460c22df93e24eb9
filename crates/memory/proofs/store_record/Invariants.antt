-- src/lib.rt, store_record: Wrote (byte_of t.now) b.old (8 + 320 * p.0) (328 + 320 * p.0) b.new
use Prim.Native.Nat.{◌+◌, ◌*◌}
use Rattle.memory.specs.Bytes.{byte_of}
use Rattle.memory.specs.ByteRecords.{Wrote}
use Rattle.memory.proofs.store_record.Given as goal

abbrev pub invariant-loop-k : goal.invariant-loop-k
invariant-loop-k l = Wrote (byte_of l.t) l.initial.b (8 * l.at) (8 * (l.at + 4 * l.k)) l.b
