-- src/pack.rt, rename_regions: Is t.new (renamed (view t.old) p.0 i.0 j.0)
use Rattle.tables.specs.View.{view}
use Rattle.services.specs.Laws.PackExits.{Renaming}
use Rattle.services.proofs.pack.rename_regions.Given as goal

abbrev pub invariant-loop-r : goal.invariant-loop-r
invariant-loop-r l = Renaming (view l.initial.t) l.p.0 l.i.0 l.j.0 l.r l.t
