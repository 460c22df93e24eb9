-- src/lib.rt, load_four: LoadedOn r.now k (k + 4) t.old t.new
use Prim.Native.Nat.{◌+◌}
use Rattle.memory.specs.ByteRecords.{LoadedOn}
use Rattle.memory.proofs.load_four.Given as goal

abbrev pub invariant-loop-o : goal.invariant-loop-o
invariant-loop-o l = LoadedOn l.r l.k (l.k + l.o) l.initial.t l.t
