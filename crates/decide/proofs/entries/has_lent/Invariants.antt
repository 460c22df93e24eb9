-- src/entries.rt, has_lent: result ≡ any 32 (λ i. has (lends p.0 (entry_of f)) ((view t.now).k.slot q.0 i))
use Rattle.loops.specs.Laws.Every.{Missing}
use Rattle.tables.specs.View.{entry_of, view}
use Rattle.sound.specs.Clauses.{has, lends}
use Rattle.decide.proofs.entries.has_lent.Given as goal

abbrev pub invariant-loop-i : goal.invariant-loop-i
invariant-loop-i l = Missing (λ k. has (lends l.p.0 (entry_of l.f)) ((view l.t).k.slot l.q.0 k)) 32 l.i
