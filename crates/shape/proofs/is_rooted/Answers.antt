-- src/lib.rt, is_rooted: result ≡ rooted p.0 j
use mathlib.Core.Path.{refl}
use borrow.Author.Tests.{eq-eqb, ne_eqb}
use Rattle.sound.specs.Clauses.{rooted}
use Rattle.shape.proofs.is_rooted.Goals as goal

pub returns-then-p-eq0 : goal.returns-then-p-eq0
unfolding rooted
returns-then-p-eq0 c = rw (eq-eqb _ 0 c.if-p-eq0.true) refl

pub returns : goal.returns
unfolding rooted
returns c = rw (ne_eqb _ 0 c.if-p-eq0.false) refl
