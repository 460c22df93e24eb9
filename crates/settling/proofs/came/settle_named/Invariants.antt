-- src/came.rt, settle_named: t.new ≡ encode (settled (view t.old))
use Rattle.settling.specs.Settled.{Came}
use Rattle.settling.specs.Laws.Settled.{AllTo}
use Rattle.settling.proofs.came.settle_named.Given as goal

abbrev pub invariant-loop-p : goal.invariant-loop-p
invariant-loop-p l = AllTo (Came l.lo.0 l.hi.0) l.initial.t l.p l.t
