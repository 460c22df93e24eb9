-- src/lib.rt, compare_record: ComparedTo sheet.now t.now (p.0 + 1) (s3 t.now p.0 && s4 t.now (view t.now).k p.0 && s5 t.now (view t.now).k p.0) result same.new
use mathlib.Core.Path.{refl, ◌∙◌}
use Rattle.sound.specs.Clauses.{s5}
use Rattle.shape.specs.Laws.Records.{record_test, record_is}
use Rattle.summing.specs.Laws.Written.{children_few, with_children}
use Rattle.comparing.specs.Laws.Once.{same_on, compared_refused, compared_passed}
use Rattle.comparing.proofs.compare_record.Goals as goal

pub returns-then-not-header_sound : goal.returns-then-not-header_sound
unfolding record_test s5
returns-then-not-header_sound c = let h = c.header_sound in compared_refused (rw (← record_is, ← h.ensures, c.if-not-header_sound.true) refl)

pub returns-then-not-structures_sound : goal.returns-then-not-structures_sound
unfolding record_test s5
returns-then-not-structures_sound c =
    let s = c.structures_sound in
    let h = c.header_sound in
    compared_refused (rw (← record_is, ← h.ensures, c.if-not-header_sound.false, ← s.ensures, c.if-not-structures_sound.true) refl)

pub returns-then-not-regions_sound : goal.returns-then-not-regions_sound
unfolding record_test s5
returns-then-not-regions_sound c =
    let r = c.regions_sound in
    let s = c.structures_sound in
    let h = c.header_sound in
    compared_refused (rw (← record_is, ← h.ensures, c.if-not-header_sound.false, ← s.ensures, c.if-not-structures_sound.false, ← r.ensures, c.if-not-regions_sound.true) refl)

pub returns-then-not-blank_words : goal.returns-then-not-blank_words
unfolding record_test s5
returns-then-not-blank_words c =
    let b = c.blank_words in
    let r = c.regions_sound in
    let s = c.structures_sound in
    let h = c.header_sound in
    compared_refused (rw (← record_is, ← h.ensures, c.if-not-header_sound.false, ← s.ensures, c.if-not-structures_sound.false, ← r.ensures, c.if-not-regions_sound.false, ← b.ensures, c.if-not-blank_words.true) refl)

pub returns-in_default : goal.returns-in_default
unfolding record_test s5
returns-in_default c =
    let b = c.blank_words in
    let r = c.regions_sound in
    let s = c.structures_sound in
    let h = c.header_sound in
    compared_refused (rw (← record_is, ← h.ensures, c.if-not-header_sound.false, ← s.ensures, c.if-not-structures_sound.false, ← r.ensures, c.if-not-regions_sound.false, ← b.ensures, c.if-not-blank_words.false) c.in_default.ensures.says)

pub words_from-pair-requires : goal.words_from-pair-requires
unfolding record_test s5
words_from-pair-requires c =
    let asked = c.requires in
    (asked.0, children_few _ _ asked.1, asked.2, c.in-Some.ensures.sums)

pub note_pair-requires : goal.note_pair-requires
unfolding record_test s5
note_pair-requires c =
    let asked = c.requires in
    (asked.0, asked.3)

pub returns : goal.returns
unfolding record_test s5
returns c =
    let asked = c.requires in
    let words = c.words_from-pair.ensures in
    let b = c.blank_words in
    let r = c.regions_sound in
    let s = c.structures_sound in
    let h = c.header_sound in
    compared_passed
    (rw (← record_is, ← h.ensures, c.if-not-header_sound.false, ← s.ensures, c.if-not-structures_sound.false, ← r.ensures, c.if-not-regions_sound.false, ← b.ensures, c.if-not-blank_words.false) c.in-Some.ensures.says)
    (same_on asked.4 (λ right. words.masks right ∙ with_children right _ asked.1) (λ right. words.lines right) c.note_pair.ensures)
