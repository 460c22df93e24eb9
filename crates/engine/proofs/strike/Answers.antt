-- src/lib.rt, strike: StrikeLent base end members masks.old result masks.new
use mathlib.Core.Path.{sym, ◌∙◌}
use native.Mathlib.Omega.{arith}
use Rattle.engine.specs.Laws.Masks.{names_low}
use Rattle.engine.specs.Laws.Exits.{strike_says, engine_refused, engine_done}
use Rattle.engine.proofs.strike.Goals as goal

pub returns-then-not-strike_right : goal.returns-then-not-strike_right
returns-then-not-strike_right c = engine_refused _ _ _ (sym c.strike_right.ensures ∙ c.if-not-strike_right.true)

pub overflow_sub-end : goal.overflow_sub-end
overflow_sub-end c = let m = strike_says _ _ _ _ (sym c.strike_right.ensures ∙ c.if-not-strike_right.false) in omega (arith, m.memory.some)

pub overflow_cast-members : goal.overflow_cast-members
overflow_cast-members c = let m = strike_says _ _ _ _ (sym c.strike_right.ensures ∙ c.if-not-strike_right.false) in omega (arith, names_low _ m.each)

pub clear-requires : goal.clear-requires
clear-requires c = let m = strike_says _ _ _ _ (sym c.strike_right.ensures ∙ c.if-not-strike_right.false) in (omega (arith, m.memory.some), m.memory.room)

pub returns : goal.returns
returns c = engine_done _ _ _ (sym c.strike_right.ensures ∙ c.if-not-strike_right.false) c.clear.ensures
