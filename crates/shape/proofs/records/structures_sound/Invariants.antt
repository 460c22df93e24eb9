-- src/records.rt, structures_sound: result ≡ all 4 (structure_test t.now (view t.now).k p.0)
use Rattle.loops.specs.Laws.Every.{Passing}
use Rattle.tables.specs.View.{view}
use Rattle.shape.specs.Records.{structure_test}
use Rattle.shape.proofs.records.structures_sound.Given as goal

abbrev pub invariant-loop-j : goal.invariant-loop-j
invariant-loop-j l = Passing (structure_test l.t (view l.t).k l.p.0) 4 l.j
