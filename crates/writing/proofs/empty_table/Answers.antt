-- src/lib.rt, empty_table: Is t.new (empty_table base.0 end.0)
use Rattle.writing.specs.Laws.Empty.{empty_is}
use Rattle.writing.proofs.empty_table.Goals as goal

pub returns : goal.returns
returns c = rw (c.store.ensures, c.write.ensures) (empty_is _ _ c.requires.0 c.requires.1)
