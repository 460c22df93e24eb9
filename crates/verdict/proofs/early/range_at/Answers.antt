-- src/early.rt, range_at: result ≡ (not (eqb p.0 0) || s1 (view t.now).k)
use mathlib.Core.Path.{refl}
use borrow.Author.Tests.{le-ltb, lt-ltb, eq-eqb, ne_eqb}
use Rattle.sound.specs.Clauses.{s1}
use Rattle.verdict.proofs.early.range_at.Goals as goal

pub returns-then-p-ne0 : goal.returns-then-p-ne0
unfolding s1
returns-then-p-ne0 c = rw (ne_eqb _ 0 c.if-p-ne0.true) refl

pub returns-then-f : goal.returns-then-f
unfolding s1
returns-then-f c = let f = c.first-f.ensures in rw (eq-eqb _ 0 c.if-p-ne0.false, f.base, f.stop, le-ltb _ _ c.if-f.true) refl

pub returns : goal.returns
unfolding s1
returns c = let f = c.first-f.ensures in rw (eq-eqb _ 0 c.if-p-ne0.false, f.base, f.stop, lt-ltb _ _ c.if-f.false, f.current) c.is_present.ensures
