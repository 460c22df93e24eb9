-- src/entries.rt, full_each: result ≡ all 32 (full_slot (view t.now).k p.0)
use Rattle.loops.specs.Laws.Every.{Passing}
use Rattle.tables.specs.View.{view}
use Rattle.decide.specs.Entries.{full_slot}
use Rattle.decide.proofs.entries.full_each.Given as goal

abbrev pub invariant-loop-i : goal.invariant-loop-i
invariant-loop-i l = Passing (full_slot (view l.t).k l.p.0) 32 l.i
