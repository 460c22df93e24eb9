-- src/lib.rt, none_left: result ≡ none_left order.now.counts next.now p.0
use mathlib.Core.Path.{refl}
use borrow.Author.Tests.{eq-eqb, ne_eqb}
use Rattle.decide.specs.Walk.{none_left}
use Rattle.decide.proofs.none_left.Goals as goal

pub returns-then-p-eq0 : goal.returns-then-p-eq0
unfolding none_left
returns-then-p-eq0 c = rw (eq-eqb _ 0 c.if-p-eq0.true) refl

pub returns : goal.returns
unfolding none_left
returns c = rw (ne_eqb _ 0 c.if-p-eq0.false) refl
