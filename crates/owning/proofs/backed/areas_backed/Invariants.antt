-- src/backed.rt, areas_backed: result ≡ all 5 (s8_backed (view t.now).k p.0)
use Rattle.loops.specs.Laws.Every.{Passing}
use Rattle.tables.specs.View.{view}
use Rattle.sound.specs.Clauses.{s8_backed}
use Rattle.owning.proofs.backed.areas_backed.Given as goal

abbrev pub invariant-loop-j : goal.invariant-loop-j
invariant-loop-j l = Passing (s8_backed (view l.t).k l.p.0) 5 l.j
