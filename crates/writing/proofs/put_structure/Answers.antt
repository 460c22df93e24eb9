-- src/lib.rt, put_structure: Is t.new (put_structure (view t.old) p.0 j (some (span f.start f.end)))
use Rattle.writing.specs.Laws.Stored.{structure_stored}
use Rattle.writing.proofs.put_structure.Goals as goal

pub returns : goal.returns
returns c = rw (c.store.ensures, c.write.ensures) (structure_stored c.requires)
