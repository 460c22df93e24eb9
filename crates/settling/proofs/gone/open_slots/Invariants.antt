-- src/gone.rt, open_slots: RecordDone Gone p.0 t.old t.new
use Rattle.settling.specs.Settled.{Gone}
use Rattle.settling.specs.Laws.Settled.{SettledRowTo}
use Rattle.settling.proofs.gone.open_slots.Given as goal

abbrev pub invariant-loop-i : goal.invariant-loop-i
invariant-loop-i l = SettledRowTo Gone l.initial.t l.p.0 l.i l.t
