-- src/records.rt, slots_sound: result ≡ all 32 (s5_slot t.now (view t.now).k p.0)
use Rattle.loops.specs.Laws.Every.{Passing}
use Rattle.tables.specs.View.{view}
use Rattle.shape.specs.Records.{slots_test}
use Rattle.shape.proofs.records.slots_sound.Given as goal

abbrev pub invariant-loop-j : goal.invariant-loop-j
invariant-loop-j l = Passing (slots_test l.t (view l.t).k l.p.0) 4 l.j
