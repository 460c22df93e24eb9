-- src/records.rt, first_sound: result ≡ s1 (view t.now).k && s3_first t.now
use mathlib.Core.Path.{refl}
use borrow.Author.Tests.{le-ltb, lt-ltb}
use Rattle.sound.specs.Clauses.{s1, s3_first}
use Rattle.shape.proofs.records.first_sound.Goals as goal

pub returns-then-f : goal.returns-then-f
unfolding s1 s3_first
returns-then-f c = let f = c.first-f.ensures in rw (f.base, f.stop, le-ltb _ _ c.if-f.true) refl

pub returns-then-not-is_present : goal.returns-then-not-is_present
unfolding s1 s3_first
returns-then-not-is_present c =
    let f = c.first-f.ensures in
    let u = c.is_present in
    rw (f.base, f.stop, lt-ltb _ _ c.if-f.false, f.current, ← u.ensures, c.if-not-is_present.true) refl

pub returns : goal.returns
unfolding s1 s3_first
returns c =
    let f = c.first-f.ensures in
    let u = c.is_present in
    rw (f.base, f.stop, lt-ltb _ _ c.if-f.false, f.current, ← u.ensures, c.if-not-is_present.false)
    c.first_bits.ensures
