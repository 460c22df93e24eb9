-- src/lib.rt, put_region: Is t.new (put_region (view t.old) p.0 r (some slot.0))
use Rattle.writing.specs.Laws.Stored.{region_stored}
use Rattle.writing.proofs.put_region.Goals as goal

pub returns : goal.returns
returns c = rw (c.store.ensures, c.write.ensures, c.with_region-f.ensures) (region_stored c.requires c.regions.ensures)
