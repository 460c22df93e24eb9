-- src/came.rt, close_slots: RecordDone (Came lo.0 hi.0) p.0 t.old t.new
use Rattle.settling.specs.Settled.{Came}
use Rattle.settling.specs.Laws.Settled.{SettledRowTo}
use Rattle.settling.proofs.came.close_slots.Given as goal

abbrev pub invariant-loop-i : goal.invariant-loop-i
invariant-loop-i l = SettledRowTo (Came l.lo.0 l.hi.0) l.initial.t l.p.0 l.i l.t
