-- src/entries.rt, undivided: result ≡ undivided (view t.now).k p.0 f.opened (entry_of f)
use mathlib.Core.Path.{refl}
use borrow.Author.Tests.{not-true, not-false, eq-eqb, ne_eqb}
use Rattle.sound.specs.Clauses.{undivided}
use Rattle.decide.proofs.entries.undivided.Goals as goal

pub returns-then-not-f : goal.returns-then-not-f
unfolding undivided
returns-then-not-f c = rw (not-true c.args.f.opened c.if-not-f.true) refl

pub returns-then-f-ne0 : goal.returns-then-f-ne0
unfolding undivided
returns-then-f-ne0 c = rw (not-false c.args.f.opened c.if-not-f.false, ne_eqb _ 0 c.if-f-ne0.true) refl

pub returns-then-p-eq0 : goal.returns-then-p-eq0
unfolding undivided
returns-then-p-eq0 c = rw (not-false c.args.f.opened c.if-not-f.false, eq-eqb _ 0 c.if-f-ne0.false, eq-eqb _ 0 c.if-p-eq0.true) refl

pub returns : goal.returns
unfolding undivided
returns c = rw (not-false c.args.f.opened c.if-not-f.false, eq-eqb _ 0 c.if-f-ne0.false, ne_eqb _ 0 c.if-p-eq0.false, c.header-h.ensures.parent) c.has_lent.ensures
