-- src/lib.rt, give: GiveLent base end child from to masks.old result masks.new
use mathlib.Core.Path.{sym, ◌∙◌}
use native.Mathlib.Omega.{arith}
use Rattle.engine.specs.Laws.Exits.{lines_say, engine_refused, give_masks_done}
use Rattle.engine.proofs.give.Goals as goal

pub returns-then-not-lines_right : goal.returns-then-not-lines_right
returns-then-not-lines_right c = engine_refused _ _ _ (sym c.lines_right.ensures ∙ c.if-not-lines_right.true)

pub overflow_sub-from : goal.overflow_sub-from
overflow_sub-from c = let m = lines_say _ _ _ _ _ _ (sym c.lines_right.ensures ∙ c.if-not-lines_right.false) in omega (arith, m.low)

pub overflow_sub-to : goal.overflow_sub-to
overflow_sub-to c = let m = lines_say _ _ _ _ _ _ (sym c.lines_right.ensures ∙ c.if-not-lines_right.false) in omega (arith, m.low, m.long, m.high)

pub overflow_cast-child : goal.overflow_cast-child
overflow_cast-child c = let m = lines_say _ _ _ _ _ _ (sym c.lines_right.ensures ∙ c.if-not-lines_right.false) in omega (arith, m.child_high)

pub overflow_shl-child : goal.overflow_shl-child
overflow_shl-child c = let m = lines_say _ _ _ _ _ _ (sym c.lines_right.ensures ∙ c.if-not-lines_right.false) in omega (arith, m.child_high)

pub enter-requires : goal.enter-requires
enter-requires c = let m = lines_say _ _ _ _ _ _ (sym c.lines_right.ensures ∙ c.if-not-lines_right.false) in (omega (arith, m.long, m.high), omega (arith, m.high, m.low, m.memory.room))

pub returns : goal.returns
returns c = give_masks_done _ _ _ _ _ _ (sym c.lines_right.ensures ∙ c.if-not-lines_right.false) c.enter.ensures
