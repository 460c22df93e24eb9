-- src/lib.rt, load_records: LoadedOn r.now 0 (40 * top) t.old t.new
use Prim.Native.Nat.{◌*◌}
use Rattle.memory.specs.ByteRecords.{LoadedOn}
use Rattle.memory.proofs.load_records.Given as goal

abbrev pub invariant-loop-k : goal.invariant-loop-k
invariant-loop-k l = LoadedOn l.r 0 (4 * l.k) l.initial.t l.t
