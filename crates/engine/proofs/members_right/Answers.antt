-- src/lib.rt, members_right: result ≡ members_right members
use Prim.Native.Nat.{◌%◌}
use mathlib.Core.Path.{refl}
use borrow.Author.Tests.{eq-eqb, ne_eqb}
use Rattle.engine.specs.Engine.{members_right}
use Rattle.engine.specs.Laws.Exits.{and_no, and_on}
use Rattle.engine.proofs.members_right.Goals as goal

pub returns-then-members-ne0 : goal.returns-then-members-ne0
unfolding members_right
returns-then-members-ne0 c = and_no _ (ne_eqb (c.args.members % 2) 0 c.if-members-ne0.true)

pub returns : goal.returns
unfolding members_right
returns c = and_on (eq-eqb (c.args.members % 2) 0 c.if-members-ne0.false) refl
