-- src/lib.rt, start: StartLent base end masks.old result masks.new
use mathlib.Core.Path.{sym, ◌∙◌}
use native.Mathlib.Omega.{arith}
use Rattle.engine.specs.Laws.Exits.{memory_says, engine_refused, engine_done}
use Rattle.engine.proofs.start.Goals as goal

pub returns-then-not-memory_right : goal.returns-then-not-memory_right
returns-then-not-memory_right c = engine_refused _ _ _ (sym c.memory_right.ensures ∙ c.if-not-memory_right.true)

pub overflow_sub-end : goal.overflow_sub-end
overflow_sub-end c = let m = memory_says _ _ _ (sym c.memory_right.ensures ∙ c.if-not-memory_right.false) in omega (arith, m.some)

pub reset-requires : goal.reset-requires
reset-requires c = let m = memory_says _ _ _ (sym c.memory_right.ensures ∙ c.if-not-memory_right.false) in (omega arith, m.room)

pub returns : goal.returns
returns c = engine_done _ _ _ (sym c.memory_right.ensures ∙ c.if-not-memory_right.false) c.reset.ensures
