-- src/lib.rt, memory_right: result ≡ memory_right n base end
use mathlib.Core.Path.{refl}
use borrow.Author.Tests.{lt-ltb, le-ltb, lt-leb, le-leb}
use Rattle.engine.specs.Engine.{memory_right}
use Rattle.engine.specs.Laws.Exits.{and_no, and_on}
use Rattle.engine.proofs.memory_right.Goals as goal

pub returns-then-base-end : goal.returns-then-base-end
unfolding memory_right
returns-then-base-end c = and_no _ (le-ltb _ _ c.if-base-end.true)

pub returns-then-lines-gt2048 : goal.returns-then-lines-gt2048
unfolding memory_right
returns-then-lines-gt2048 c = and_on (lt-ltb _ _ c.if-base-end.false) (and_no _ (lt-leb _ _ c.if-lines-gt2048.true))

pub returns : goal.returns
unfolding memory_right
returns c = and_on (lt-ltb _ _ c.if-base-end.false) (and_on (le-leb _ _ c.if-lines-gt2048.false) refl)
