-- src/lib.rt, child_right: result ≡ child_right child
use mathlib.Core.Path.{refl}
use borrow.Author.Tests.{lt-leb, le-leb}
use Rattle.engine.specs.Engine.{child_right}
use Rattle.engine.specs.Laws.Exits.{and_no, and_on}
use Rattle.engine.proofs.child_right.Goals as goal

pub returns-then-child-lt1 : goal.returns-then-child-lt1
unfolding child_right
returns-then-child-lt1 c = and_no _ (lt-leb 1 c.args.child c.if-child-lt1.true)

pub returns : goal.returns
unfolding child_right
returns c = and_on (le-leb 1 c.args.child c.if-child-lt1.false) refl
