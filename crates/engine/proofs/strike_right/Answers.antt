-- src/lib.rt, strike_right: result ≡ strike_right n base end members
use mathlib.Core.Path.{sym, ◌∙◌}
use Rattle.engine.specs.Engine.{strike_right}
use Rattle.engine.specs.Laws.Exits.{and_no, and_on}
use Rattle.engine.proofs.strike_right.Goals as goal

pub returns-then-not-memory_right : goal.returns-then-not-memory_right
unfolding strike_right
returns-then-not-memory_right c = and_no _ (sym c.memory_right.ensures ∙ c.if-not-memory_right.true)

pub returns : goal.returns
unfolding strike_right
returns c = and_on (sym c.memory_right.ensures ∙ c.if-not-memory_right.false) c.members_right.ensures
