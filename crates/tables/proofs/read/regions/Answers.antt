-- src/read.rt, regions: SeenRegions t.now p.0 result
use Rattle.tables.specs.Laws.Seen.{see_regions}
use Rattle.tables.specs.View.{regions_word_at}
use Rattle.tables.proofs.read.regions.Goals as goal

pub returns : goal.returns
unfolding regions_word_at
returns c = let a = c.args in see_regions a.t.now a.p.0 _ c.requires c.fields.ensures
