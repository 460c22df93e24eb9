-- src/pack.rt, rename_regions: Is t.new (renamed (view t.old) p.0 i.0 j.0)
use Rattle.tables.specs.Laws.FitView.{fit_view}
use Rattle.services.specs.Laws.PackExits.{rename_start, rename_more, rename_end}
use native.Mathlib.Omega.{arith}
use Rattle.services.proofs.pack.rename_regions.Goals as goal

pub loop-r-init : goal.loop-r-init
loop-r-init c = rename_start c.requires.0

pub loop-r-preserved : goal.loop-r-preserved
loop-r-preserved c = rename_more c.loop-r.invariant (omega arith) c.rename_region.ensures

pub returns : goal.returns
returns c = rename_end c.loop-r.invariant (fit_view c.requires.0) (omega arith)
