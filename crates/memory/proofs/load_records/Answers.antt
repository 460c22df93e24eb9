-- src/lib.rt, load_records: LoadedOn r.now 0 (40 * top) t.old t.new
use Rattle.memory.specs.Laws.ByteRecords.{loads_at, loads_on}
use native.Mathlib.Omega.{arith}
use Rattle.memory.proofs.load_records.Goals as goal

pub loop-k-preserved : goal.loop-k-preserved
loop-k-preserved c = loads_at _ (loads_on c.loop-k.invariant c.load_four.ensures) (omega arith)
