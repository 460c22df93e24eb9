-- src/pack.rt, pack: Ran (pack (view t.old) p.0) t.old result t.new
use Rattle.tables.specs.View.{view}
use Rattle.services.specs.Laws.PackExits.{Packs}
use Rattle.services.proofs.pack.pack.Given as goal

abbrev pub invariant-loop-i : goal.invariant-loop-i
invariant-loop-i l = Packs (view l.initial.t) l.p.0 l.i l.t l.moved
