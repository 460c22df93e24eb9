-- src/pairs.rt, structures: result ≡ map_of 4 (structured (view t.now).k p.0)
use Rattle.loops.specs.Laws.Map.{Mapping}
use Rattle.tables.specs.View.{view}
use Rattle.sheetrules.specs.Sheet.{structured}
use Rattle.summing.proofs.pairs.structures.Given as goal

abbrev pub invariant-loop-j : goal.invariant-loop-j
invariant-loop-j l = Mapping (structured (view l.t).k l.p.0) 0 4 l.j l.mask
