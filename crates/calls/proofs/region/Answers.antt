-- src/lib.rt, region: Ran (numbered board 9 (view t.old) f) t.old result t.new
use Rattle.rules.specs.Laws.Ran.{ran_as}
use Rattle.rules.specs.Laws.Each.{region_loads, region_unloads}
use Rattle.calls.proofs.region.Goals as goal

pub unload-requires : goal.unload-requires
unload-requires c = (c.requires.0, c.requires.1.partition, c.requires.2)

pub returns-then-r : goal.returns-then-r
returns-then-r c = ran_as (region_unloads _ _ c.args.f c.if-r.true) c.unload.ensures

pub load-requires : goal.load-requires
load-requires c = (c.requires.0, c.requires.1.partition, c.requires.1.slot, c.requires.2)

pub returns : goal.returns
returns c = ran_as (region_loads _ _ c.args.f c.if-r.false) c.load.ensures
