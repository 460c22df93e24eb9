-- src/lib.rt, clear_structure: Is t.new (put_structure (view t.old) p.0 j none)
use Rattle.writing.specs.Laws.Stored.{structure_cleared}
use Rattle.writing.proofs.clear_structure.Goals as goal

pub returns : goal.returns
returns c = structure_cleared c.requires
