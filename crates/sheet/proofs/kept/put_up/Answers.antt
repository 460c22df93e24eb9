-- src/kept.rt, put_up: sheet.new ≡ put_those (above (view t.now).k p.0) (view t.now) sheet.old
use mathlib.Core.Path.{refl}
use Rattle.sheet.proofs.kept.put_up.Goals as goal

pub children-requires : goal.children-requires
children-requires c = refl

pub climb_pairs-requires : goal.climb_pairs-requires
climb_pairs-requires c = let asked = c.requires in (asked.0, c.children.ensures, asked.1, asked.2)

pub returns : goal.returns
returns c = c.climb_pairs.ensures
