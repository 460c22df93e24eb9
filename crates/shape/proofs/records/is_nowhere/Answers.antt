-- src/records.rt, is_nowhere: result ≡ is_nowhere (record { lo = a.0; hi = b.0 })
use mathlib.Core.Path.{refl}
use borrow.Author.Tests.{eq-eqb, ne_eqb}
use Rattle.sound.specs.Clauses.{is_nowhere}
use Rattle.shape.proofs.records.is_nowhere.Goals as goal

pub returns-then-a-ne0 : goal.returns-then-a-ne0
unfolding is_nowhere
returns-then-a-ne0 c = rw (ne_eqb _ 0 c.if-a-ne0.true) refl

pub returns : goal.returns
unfolding is_nowhere
returns c = rw (eq-eqb _ 0 c.if-a-ne0.false) refl
