-- src/lib.rt, used_slots: UsedEnd (view t.now).k p.0 result
use Rattle.tables.specs.View.{view}
use Rattle.settling.specs.Laws.Settled.{AbsentStructures}
use Rattle.settling.proofs.used_slots.Given as goal

abbrev pub invariant-loop-j : goal.invariant-loop-j
invariant-loop-j l = AbsentStructures (view l.t).k l.p.0 l.j
