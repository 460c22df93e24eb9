-- src/came.rt, close_slots: RecordDone (Came lo.0 hi.0) p.0 t.old t.new
use Rattle.settling.specs.Laws.Settled.{settled_row_start, settled_row_more, settled_row_end}
use native.Mathlib.Omega.{arith}
use Rattle.settling.proofs.came.close_slots.Goals as goal

pub loop-i-init : goal.loop-i-init
loop-i-init c = settled_row_start c.requires.0 c.requires.1

pub loop-i-preserved : goal.loop-i-preserved
loop-i-preserved c = settled_row_more c.loop-i.invariant c.close_slot.ensures

pub returns : goal.returns
returns c = settled_row_end c.loop-i.invariant c.requires.1.housed c.loop-i.invariant.near.still.named c.used_slots-n.ensures (omega arith)
