-- src/lib.rt, of_table: result ≡ verdict board t.now
use mathlib.Core.Path.{◌∙◌}
use native.Mathlib.Omega.{arith}
use Rattle.tables.specs.Laws.Top.{top_16}
use Rattle.verdict.proofs.Laws.Stages.{early_reached, one_said, none_said, reached_shaped, arranged_orders}
use Rattle.verdict.proofs.of_table.Goals as goal

pub returns-in-Some : goal.returns-in-Some
returns-in-Some c = c.failing.ensures ∙ one_said _ _ 96 _ (omega arith) c.in-Some.ensures

pub arrange-requires : goal.arrange-requires
arrange-requires c = (top_16 _, reached_shaped (early_reached _ _ c.in_default.ensures) (omega arith))

pub lowest-requires-2 : goal.lowest-requires-2
lowest-requires-2 c =
    let low = early_reached _ _ c.in_default.ensures in
    record { reached = low; orders = arranged_orders low c.arrange.ensures; areas = c.gather.ensures.areas }

pub returns-in-Some-lowest : goal.returns-in-Some-lowest
returns-in-Some-lowest c = c.failing-in-Some-lowest.ensures ∙ one_said _ _ 176 _ (omega arith) c.in-Some-lowest.ensures

pub returns-in-None : goal.returns-in-None
returns-in-None c = none_said _ _ c.in-None.ensures
