-- src/lib.rt, owned_at: result ≡ s8 (view t.now).k p.0
use Rattle.loops.specs.Laws.Every.{Passing}
use Rattle.tables.specs.View.{view}
use Rattle.sound.specs.Clauses.{s8_apart}
use Rattle.owning.proofs.owned_at.Given as goal

abbrev pub invariant-loop-j : goal.invariant-loop-j
invariant-loop-j l = Passing (s8_apart (view l.t).k l.p.0) 5 l.j
