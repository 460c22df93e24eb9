-- src/lib.rt, load_four: LoadedOn r.now k (k + 4) t.old t.new
use Rattle.memory.specs.Laws.ByteRecords.{loads_at, loads_word}
use native.Mathlib.Omega.{arith}
use Rattle.memory.proofs.load_four.Goals as goal

pub loop-o-preserved : goal.loop-o-preserved
loop-o-preserved c = loads_at _ (loads_word c.loop-o.invariant (omega arith) (omega arith) (omega arith) c.word.ensures) (omega arith)
