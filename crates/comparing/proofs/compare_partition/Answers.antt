-- src/lib.rt, compare_partition: ComparedTo sheet.now t.now (p.0 + 1) (shape_at t.now p.0) result same.new
use mathlib.Core.Path.{sym, ◌∙◌, ap}
use Rattle.tables.specs.Laws.Top.{top_absent}
use Rattle.sound.specs.Laws.Tests.{and_says, never}
use Rattle.shape.specs.AtOnce.{shape_at}
use Rattle.decide.specs.Laws.Decide.{failed, passed, absent_shape, and_is, top_shape}
use Rattle.sheetrules.proofs.Laws.Words.{pair_absent}
use Rattle.comparing.specs.Laws.Once.{same_on, compared_refused, compared_passed, compared_as}
use native.Mathlib.Omega.{arith}
use mathlib.Core.Bool.{not}
use Rattle.comparing.proofs.compare_partition.Goals as goal

pub note_pair-requires : goal.note_pair-requires
unfolding shape_at
note_pair-requires c = let asked = c.requires in (asked.2, asked.4)

pub returns-then-p-top : goal.returns-then-p-top
unfolding shape_at
returns-then-p-top c =
    let asked = c.requires in
    let none = top_absent asked.0 _ (omega arith) in
    compared_passed (sym (top_shape asked.0 asked.1 _ (omega arith) asked.2)) (same_on asked.5 (λ right. (pair_absent right _ none).0) (λ right. (pair_absent right _ none).1) c.note_pair.ensures)

pub returns-then-not-family_sound : goal.returns-then-not-family_sound
unfolding shape_at
returns-then-not-family_sound c = compared_refused (never _ (λ q. failed c.family_sound.ensures (ap not c.if-not-family_sound.true) (and_says _ _ q).0))

pub note_pair-requires-then-not-is_present : goal.note_pair-requires-then-not-is_present
unfolding shape_at
note_pair-requires-then-not-is_present c =
    let asked = c.requires in
    (asked.2, asked.4)

pub returns-then-not-is_present : goal.returns-then-not-is_present
unfolding shape_at
returns-then-not-is_present c =
    let asked = c.requires in
    let none = sym c.is_present.ensures ∙ c.if-not-is_present.true in
    compared_passed (absent_shape _ _ asked.2 (passed c.family_sound.ensures (ap not c.if-not-family_sound.false)) none) (same_on asked.5 (λ right. (pair_absent right _ none).0) (λ right. (pair_absent right _ none).1) c.note_pair-then-not-is_present.ensures)

pub mask_of-children-requires : goal.mask_of-children-requires
unfolding shape_at
mask_of-children-requires c =
    let asked = c.requires in
    (asked.2, asked.3.size)

pub compare_record-requires : goal.compare_record-requires
unfolding shape_at
compare_record-requires c =
    let asked = c.requires in
    (asked.2, c.mask_of-children.ensures ∙ asked.3.at _ asked.2, sym c.is_present.ensures ∙ c.if-not-is_present.false, asked.4, asked.5)

pub returns : goal.returns
unfolding shape_at
returns c = compared_as (and_is _ _ (passed c.family_sound.ensures (ap not c.if-not-family_sound.false))) c.compare_record.ensures
