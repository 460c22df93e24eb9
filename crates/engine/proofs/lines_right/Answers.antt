-- src/lib.rt, lines_right: result ≡ lines_right n base end child from to
use mathlib.Core.Path.{sym, ◌∙◌}
use Rattle.engine.specs.Engine.{lines_right}
use Rattle.engine.specs.Laws.Exits.{and_no, and_on}
use Rattle.engine.proofs.lines_right.Goals as goal

pub returns-then-not-memory_right : goal.returns-then-not-memory_right
unfolding lines_right
returns-then-not-memory_right c = and_no _ (sym c.memory_right.ensures ∙ c.if-not-memory_right.true)

pub returns-then-not-child_right : goal.returns-then-not-child_right
unfolding lines_right
returns-then-not-child_right c = and_on (sym c.memory_right.ensures ∙ c.if-not-memory_right.false) (and_no _ (sym c.child_right.ensures ∙ c.if-not-child_right.true))

pub returns : goal.returns
unfolding lines_right
returns c = and_on (sym c.memory_right.ensures ∙ c.if-not-memory_right.false) (and_on (sym c.child_right.ensures ∙ c.if-not-child_right.false) c.block_right.ensures)
