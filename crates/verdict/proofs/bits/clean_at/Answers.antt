-- src/bits.rt, clean_at: result ≡ (not (eqb p.0 0) || s3_first t.now) && s3 t.now p.0
use mathlib.Core.Path.{refl}
use Rattle.verdict.proofs.bits.clean_at.Goals as goal

pub returns-then-not-first_clean : goal.returns-then-not-first_clean
returns-then-not-first_clean c = let f = c.first_clean in rw (← f.ensures, c.if-not-first_clean.true) refl

pub returns : goal.returns
returns c = let f = c.first_clean in rw (← f.ensures, c.if-not-first_clean.false) c.record_clean.ensures
