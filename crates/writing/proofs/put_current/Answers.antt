-- src/lib.rt, put_current: Is t.new (put_current (view t.old) c.0)
use Rattle.writing.specs.Laws.Stored.{current_stored}
use Rattle.writing.proofs.put_current.Goals as goal

pub returns : goal.returns
returns c = rw (c.store.ensures, c.write.ensures) (current_stored c.requires c.first-f.ensures)
