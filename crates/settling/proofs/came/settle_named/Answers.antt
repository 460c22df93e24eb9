-- src/came.rt, settle_named: t.new ≡ encode (settled (view t.old))
use mathlib.Core.Path.{refl}
use Rattle.loops.specs.Laws.Left.{bit_not}
use Rattle.settling.specs.Laws.Settled.{settled_all_more, settled_all_pass, settled_all_end}
use native.Mathlib.Omega.{arith}
use Rattle.settling.proofs.came.settle_named.Goals as goal
use Rattle.settling.proofs.came.settle_named.Goals.{then-mask-p-eq1, else-mask-p-eq1}

pub loop-p-preserved : goal.loop-p-preserved
loop-p-preserved c =
    elim c.if-mask-p-eq1.branch [
      | then-mask-p-eq1 w ↦ rw w.t-is (settled_all_more c.loop-p.invariant w.close_slots.ensures)
      | else-mask-p-eq1 w ↦ rw w.t-is (settled_all_pass c.requires.2 c.loop-p.invariant (omega arith) (bit_not _ _ refl w.if-mask-p-eq1.false))
    ]

pub returns : goal.returns
returns c = settled_all_end c.loop-p.invariant c.loop-p.invariant.near.still.named (omega arith)
