-- src/region_services.rt, in_another: result ≡ in_another (view t.now) p.0 s.0 r q
use mathlib.Core.Path.{◌∙◌}
use Rattle.services.specs.Laws.RegionExits.{region_none, region_some, another_same, another_none, another_some}
use Rattle.services.proofs.region_services.in_another.Goals as goal

pub returns-then-q-r : goal.returns-then-q-r
returns-then-q-r c = another_same _ _ _ _ _ c.if-q-r.true

pub returns-then-not-x : goal.returns-then-not-x
returns-then-not-x c = another_none _ _ _ _ _ c.if-q-r.false (region_none c.regions-f.ensures _ c.requires.1 c.nth-x.ensures c.if-not-x.true)

pub returns : goal.returns
returns c = c.eq.ensures ∙ another_some _ _ _ _ _ c.if-q-r.false (region_some c.regions-f.ensures _ c.requires.1 c.nth-x.ensures c.if-not-x.false)
