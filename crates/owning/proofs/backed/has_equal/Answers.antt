-- src/backed.rt, has_equal: result ≡ equals (view t.now).k q.0 (area_between lo.0 hi.0)
use mathlib.Core.Path.{◌∙◌}
use Rattle.owning.specs.Laws.Backed.{equal_is}
use Rattle.owning.proofs.backed.has_equal.Goals as goal

pub returns : goal.returns
returns c = c.is_some.ensures ∙ equal_is _ _ _ c.equal_slot.ensures
