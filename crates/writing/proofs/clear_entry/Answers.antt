-- src/lib.rt, clear_entry: Is t.new (put_slot (view t.old) p.0 i.0 none false)
use Rattle.writing.specs.Laws.Stored.{entry_cleared}
use Rattle.writing.proofs.clear_entry.Goals as goal

pub returns : goal.returns
returns c = entry_cleared c.requires
