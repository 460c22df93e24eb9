-- src/bits.rt, record_clean: result ≡ s3 t.now p.0
use mathlib.Core.Path.{refl}
use Rattle.sound.specs.Clauses.{s3}
use Rattle.verdict.proofs.bits.record_clean.Goals as goal

pub returns-then-not-header_bits : goal.returns-then-not-header_bits
unfolding s3
returns-then-not-header_bits c = let h = c.header_bits in rw (← h.ensures, c.if-not-header_bits.true) refl

pub returns-then-not-structures_clean : goal.returns-then-not-structures_clean
unfolding s3
returns-then-not-structures_clean c =
    let s = c.structures_clean in
    let h = c.header_bits in
    rw (← h.ensures, c.if-not-header_bits.false, ← s.ensures, c.if-not-structures_clean.true) refl

pub returns-then-not-regions_sound : goal.returns-then-not-regions_sound
unfolding s3
returns-then-not-regions_sound c =
    let r = c.regions_sound in
    let s = c.structures_clean in
    let h = c.header_bits in
    rw (← h.ensures, c.if-not-header_bits.false, ← s.ensures, c.if-not-structures_clean.false, ← r.ensures, c.if-not-regions_sound.true) refl

pub returns : goal.returns
unfolding s3
returns c =
    let r = c.regions_sound in
    let s = c.structures_clean in
    let h = c.header_bits in
    rw (← h.ensures, c.if-not-header_bits.false, ← s.ensures, c.if-not-structures_clean.false, ← r.ensures, c.if-not-regions_sound.false)
    c.blank_words.ensures
