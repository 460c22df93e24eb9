-- src/early.rt, apart_at: result ≡ s6 (view t.now).k p.0
use mathlib.Core.Path.{◌∙◌}
use Rattle.ordering.specs.Laws.Arrange.{rowed_says}
use Rattle.verdict.proofs.early.apart_at.Goals as goal

pub returns : goal.returns
returns c = c.is_some.ensures ∙ rowed_says c.arrange_record.ensures
