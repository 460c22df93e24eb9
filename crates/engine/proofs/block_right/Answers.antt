-- src/lib.rt, block_right: result ≡ block_right base end from to
use mathlib.Core.Path.{refl}
use borrow.Author.Tests.{lt-ltb, le-ltb, lt-leb, le-leb}
use Rattle.engine.specs.Engine.{block_right}
use Rattle.engine.specs.Laws.Exits.{and_no, and_on}
use Rattle.engine.proofs.block_right.Goals as goal

pub returns-then-base-from : goal.returns-then-base-from
unfolding block_right
returns-then-base-from c = and_no _ (lt-leb _ _ c.if-base-from.true)

pub returns-then-from-to : goal.returns-then-from-to
unfolding block_right
returns-then-from-to c = and_on (le-leb _ _ c.if-base-from.false) (and_no _ (le-ltb _ _ c.if-from-to.true))

pub returns : goal.returns
unfolding block_right
returns c = and_on (le-leb _ _ c.if-base-from.false) (and_on (lt-ltb _ _ c.if-from-to.false) refl)
