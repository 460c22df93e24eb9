-- src/rights.rt, rights_within: result ≡ within a b
use mathlib.Core.Path.{refl}
use Rattle.sound.specs.Clauses.{within}
use Rattle.shape.proofs.rights.rights_within.Goals as goal

pub returns-then-not-right_within : goal.returns-then-not-right_within
unfolding within
returns-then-not-right_within c = rw (← c.right_within.ensures, c.if-not-right_within.true) refl

pub returns-then-not-right_within-2 : goal.returns-then-not-right_within-2
unfolding within
returns-then-not-right_within-2 c = rw (← c.right_within.ensures, c.if-not-right_within.false, ← c.right_within-2.ensures, c.if-not-right_within-2.true) refl

pub returns : goal.returns
unfolding within
returns c = rw (← c.right_within.ensures, c.if-not-right_within.false, ← c.right_within-2.ensures, c.if-not-right_within-2.false) c.right_within-3.ensures
