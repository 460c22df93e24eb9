-- src/lib.rt, kept_regions: result ≡ regions_for (λ i. keep ((view t.now).opened p.0) ((view t.now).region p.0 i))
use Rattle.tables.specs.View.{nth_region}
use Rattle.tables.specs.Laws.Kept.{kept_regions}
use Rattle.settling.proofs.kept_regions.Goals as goal

pub kept_region-requires : goal.kept_region-requires
unfolding nth_region
kept_region-requires c = (c.requires, c.regions-f.ensures.small 0)

pub kept_region-requires-2 : goal.kept_region-requires-2
unfolding nth_region
kept_region-requires-2 c = (c.requires, c.regions-f.ensures.small 1)

pub kept_region-requires-3 : goal.kept_region-requires-3
unfolding nth_region
kept_region-requires-3 c = (c.requires, c.regions-f.ensures.small 2)

pub kept_region-requires-4 : goal.kept_region-requires-4
unfolding nth_region
kept_region-requires-4 c = (c.requires, c.regions-f.ensures.small 3)

pub kept_region-requires-5 : goal.kept_region-requires-5
unfolding nth_region
kept_region-requires-5 c = (c.requires, c.regions-f.ensures.small 4)

pub kept_region-requires-6 : goal.kept_region-requires-6
unfolding nth_region
kept_region-requires-6 c = (c.requires, c.regions-f.ensures.small 5)

pub kept_region-requires-7 : goal.kept_region-requires-7
unfolding nth_region
kept_region-requires-7 c = (c.requires, c.regions-f.ensures.small 6)

pub kept_region-requires-8 : goal.kept_region-requires-8
unfolding nth_region
kept_region-requires-8 c = (c.requires, c.regions-f.ensures.small 7)

pub returns : goal.returns
unfolding nth_region
returns c =
    kept_regions _ _ _ _ c.regions-f.ensures.region
    c.kept_region.ensures c.kept_region-2.ensures c.kept_region-3.ensures c.kept_region-4.ensures
    c.kept_region-5.ensures c.kept_region-6.ensures c.kept_region-7.ensures c.kept_region-8.ensures
