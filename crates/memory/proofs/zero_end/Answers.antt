-- src/lib.rt, zero_end: ZeroEnd b.now (1 + 40 * result)
use mathlib.Core.Path.{sym, ◌∙◌}
use Rattle.memory.specs.Laws.ByteRecords.{end_record}
use native.Mathlib.Omega.{arith}
use Rattle.memory.proofs.zero_end.Goals as goal

pub loop-p-preserved : goal.loop-p-preserved
loop-p-preserved c = end_record _ _ c.loop-p.invariant (omega arith) (omega arith) (sym c.zero_forty.ensures ∙ c.if-not-zero_forty.false)
