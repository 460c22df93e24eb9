-- src/lib.rt, put_header: Is t.new (put_header (view t.old) p.0 f.parent.0 (some (span f.start f.end)))
use Rattle.writing.specs.Laws.Stored.{header_stored}
use Rattle.writing.proofs.put_header.Goals as goal

pub returns : goal.returns
returns c = rw (c.store.ensures, c.write.ensures) (header_stored c.requires)
