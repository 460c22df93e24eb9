-- src/lib.rt, put_entry: Is t.new (put_slot (view t.old) p.0 i.0 (some (entry_of f)) f.opened)
use Rattle.writing.specs.Laws.Stored.{entry_stored}
use Rattle.writing.proofs.put_entry.Goals as goal

pub returns : goal.returns
returns c = rw (c.store.ensures, c.write.ensures) (entry_stored c.requires)
