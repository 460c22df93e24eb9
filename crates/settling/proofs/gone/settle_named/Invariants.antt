-- src/gone.rt, settle_named: t.new ≡ encode (settled (view t.old))
use Rattle.settling.specs.Settled.{Gone}
use Rattle.settling.specs.Laws.Settled.{AllTo}
use Rattle.settling.proofs.gone.settle_named.Given as goal

abbrev pub invariant-loop-p : goal.invariant-loop-p
invariant-loop-p l = AllTo Gone l.initial.t l.p l.t
