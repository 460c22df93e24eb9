-- src/gone.rt, open_slots: RecordDone Gone p.0 t.old t.new
use Rattle.settling.specs.Laws.Settled.{settled_row_start, settled_row_more, settled_row_end, near_areas}
use native.Mathlib.Omega.{arith}
use Rattle.settling.proofs.gone.open_slots.Goals as goal

pub loop-i-init : goal.loop-i-init
loop-i-init c = settled_row_start c.requires.0 c.requires.1

pub open_slot-requires : goal.open_slot-requires
open_slot-requires c =
    let n = c.loop-i.invariant.near in
    let h = c.requires in
    (n.canon, n.still, near_areas n h.2, h.3, omega (arith, c.used_slots-m.ensures.is, c.used_slots-m.ensures.within))

pub loop-i-preserved : goal.loop-i-preserved
loop-i-preserved c = settled_row_more c.loop-i.invariant c.open_slot.ensures

pub returns : goal.returns
returns c = settled_row_end c.loop-i.invariant c.requires.1.housed c.loop-i.invariant.near.still.named c.used_slots-m.ensures (omega arith)
