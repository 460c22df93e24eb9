-- src/bits.rt, first_clean: result ≡ (not (eqb p.0 0) || s3_first t.now)
use mathlib.Core.Path.{refl}
use borrow.Author.Tests.{eq-eqb, ne_eqb}
use Rattle.sound.specs.Clauses.{s3_first}
use Rattle.verdict.proofs.bits.first_clean.Goals as goal

pub returns-then-p-ne0 : goal.returns-then-p-ne0
unfolding s3_first
returns-then-p-ne0 c = rw (ne_eqb _ 0 c.if-p-ne0.true) refl

pub returns : goal.returns
unfolding s3_first
returns c = rw (eq-eqb _ 0 c.if-p-ne0.false) c.first_bits.ensures
