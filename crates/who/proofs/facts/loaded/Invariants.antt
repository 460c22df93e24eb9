-- src/facts.rt, loaded: result ≡ any 8 (names_it (view t.now) p.0 s.0)
use Rattle.loops.specs.Laws.Every.{Missing}
use Rattle.tables.specs.View.{view}
use Rattle.who.specs.Who.{names_it}
use Rattle.who.proofs.facts.loaded.Given as goal

abbrev pub invariant-loop-r : goal.invariant-loop-r
invariant-loop-r l = Missing (names_it (view l.t) l.p.0 l.s.0) 8 l.r
