-- src/lib.rt, clear_region: Is t.new (put_region (view t.old) p.0 r none)
use Rattle.writing.specs.Laws.Stored.{region_cleared}
use Rattle.writing.proofs.clear_region.Goals as goal

pub returns : goal.returns
returns c = rw (c.store.ensures, c.write.ensures, c.with_region-f.ensures) (region_cleared c.requires c.regions.ensures)
