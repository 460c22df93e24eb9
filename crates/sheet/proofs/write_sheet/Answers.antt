-- src/lib.rt, write_sheet: sheet.new ≡ sheet_bytes (sheet_of (view t.now))
use mathlib.Core.Path.{refl}
use Rattle.sheet.proofs.write_sheet.Goals as goal

pub children-requires : goal.children-requires
children-requires c = refl

pub put_pairs-requires : goal.put_pairs-requires
put_pairs-requires c = (c.children.ensures, c.requires.0, c.requires.1)

pub returns : goal.returns
returns c = c.put_pairs.ensures
