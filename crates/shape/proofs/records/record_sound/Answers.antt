-- src/records.rt, record_sound: result ≡ s3 t.now p.0 && s4 t.now (view t.now).k p.0 && s5 t.now (view t.now).k p.0
use mathlib.Core.Path.{refl}
use Rattle.shape.specs.Laws.Records.{record_test, record_is}
use Rattle.shape.proofs.records.record_sound.Goals as goal

pub returns-then-not-header_sound : goal.returns-then-not-header_sound
unfolding record_test
returns-then-not-header_sound c = let h = c.header_sound in rw (← record_is, ← h.ensures, c.if-not-header_sound.true) refl

pub returns-then-not-structures_sound : goal.returns-then-not-structures_sound
unfolding record_test
returns-then-not-structures_sound c =
    let s = c.structures_sound in
    let h = c.header_sound in
    rw (← record_is, ← h.ensures, c.if-not-header_sound.false, ← s.ensures, c.if-not-structures_sound.true) refl

pub returns-then-not-regions_sound : goal.returns-then-not-regions_sound
unfolding record_test
returns-then-not-regions_sound c =
    let r = c.regions_sound in
    let s = c.structures_sound in
    let h = c.header_sound in
    rw (← record_is, ← h.ensures, c.if-not-header_sound.false, ← s.ensures, c.if-not-structures_sound.false, ← r.ensures, c.if-not-regions_sound.true) refl

pub returns-then-not-blank_words : goal.returns-then-not-blank_words
unfolding record_test
returns-then-not-blank_words c =
    let b = c.blank_words in
    let r = c.regions_sound in
    let s = c.structures_sound in
    let h = c.header_sound in
    rw (← record_is, ← h.ensures, c.if-not-header_sound.false, ← s.ensures, c.if-not-structures_sound.false, ← r.ensures, c.if-not-regions_sound.false, ← b.ensures, c.if-not-blank_words.true) refl

pub returns : goal.returns
unfolding record_test
returns c =
    let b = c.blank_words in
    let r = c.regions_sound in
    let s = c.structures_sound in
    let h = c.header_sound in
    rw (← record_is, ← h.ensures, c.if-not-header_sound.false, ← s.ensures, c.if-not-structures_sound.false, ← r.ensures, c.if-not-regions_sound.false, ← b.ensures, c.if-not-blank_words.false)
    c.slots_sound.ensures
