-- src/lib.rt, call_sheet_bytes: CallSheetLent board table.old sheet.old word second.old result table.new sheet.new second.new
use mathlib.Core.Path.{refl, sym, ◌∙◌}
use borrow.Author.Tests.{not-true, not-false}
use Rattle.tables.specs.Laws.Top.{top_at}
use Rattle.rules.proofs.Laws.Brief.{call_brief, brief_first}
use Rattle.face.specs.Laws.Face.{call_tells, call_told, call_stored, call_caller_small}
use Rattle.facesheet.specs.Laws.Sheets.{loaded_right, called_right, call_short, call_unsound, call_mismatch, call_neither, call_both}
use native.Mathlib.Omega.{arith}
use borrow.Author.Rules.{rules}
use Rattle.sheetrules.specs.Laws.Bytes.{matches_length}
use Rattle.facesheet.proofs.call_sheet_bytes.Goals as goal

pub refused-requires : goal.refused-requires
refused-requires c = omega arith

pub returns-then-table-ne5128 : goal.returns-then-table-ne5128
returns-then-table-ne5128 c = call_short _ _ _ _ c.if-table-ne5128.true c.refused.ensures

pub load-top-requires : goal.load-top-requires
load-top-requires c = (c.if-table-ne5128.false, refl)

pub is_sound_beside-requires : goal.is_sound_beside-requires
is_sound_beside-requires c =
    let small = c.slice_known-1.given in
    (top_at c.load-top.ensures.0 c.load-top.ensures.1, λ q. loaded_right _ _ c.load-top.ensures.0 (λ i. (small i).fits) q, refl)

pub refused-requires-then-not-is_sound_beside : goal.refused-requires-then-not-is_sound_beside
refused-requires-then-not-is_sound_beside c = omega arith

pub returns-then-not-is_sound_beside : goal.returns-then-not-is_sound_beside
returns-then-not-is_sound_beside c = call_unsound _ _ _ _ c.if-table-ne5128.false c.load-top.ensures.0 (sym c.is_sound_beside.ensures.says ∙ c.if-not-is_sound_beside.true) c.refused-then-not-is_sound_beside.ensures

pub refused-requires-then-not-same : goal.refused-requires-then-not-same
refused-requires-then-not-same c = omega (arith, c.first-first.ensures.current_small)

pub returns-then-not-same : goal.returns-then-not-same
returns-then-not-same c = call_mismatch _ _ _ _ c.if-table-ne5128.false c.load-top.ensures.0 (sym c.is_sound_beside.ensures.says ∙ c.if-not-is_sound_beside.false) (sym (c.is_sound_beside.ensures.same c.if-not-is_sound_beside.false) ∙ c.if-not-same.true) c.first-first.ensures.current c.refused-then-not-same.ensures

pub serve_word-answer-requires : goal.serve_word-answer-requires
serve_word-answer-requires c = sym c.is_sound_beside.ensures.says ∙ c.if-not-is_sound_beside.false

pub store_both-requires : goal.store_both-requires
store_both-requires c =
    let size = c.if-table-ne5128.false in
    let load = c.load-top.ensures.0 in
    let small = c.slice_known-1.given in
    let answer = c.serve_word-answer.ensures in
    let done = c.in-Ok.is in
    (size, matches_length _ _ (sym (c.is_sound_beside.ensures.same c.if-not-is_sound_beside.false) ∙ c.if-not-same.false), call_tells _ size load answer (λ i. (small i).fits) done, call_told _ size load answer (λ i. (small i).fits) done, call_stored _ size load answer (λ i. (small i).fits) done, called_right _ _ load (λ i. (small i).fits) answer done, c.touched-touched.ensures.1)

pub packed-requires : goal.packed-requires
packed-requires c = (omega arith, omega (arith, call_caller_small _ c.if-table-ne5128.false c.load-top.ensures.0 c.serve_word-answer.ensures), omega (arith, brief_first (call_brief _ _ _) (sym c.serve_word-answer.ensures.ran.outcome ∙ c.in-Ok.is)))

pub refused-requires-in-Err : goal.refused-requires-in-Err
refused-requires-in-Err c = omega (arith, call_caller_small _ c.if-table-ne5128.false c.load-top.ensures.0 c.serve_word-answer.ensures)

pub returns-in-Ok : goal.returns-in-Ok
returns-in-Ok c =
    let small = c.slice_known-1.given in
    let bytes = c.slice_known-2-1.given in
    let right = sym c.is_sound_beside.ensures.says ∙ c.if-not-is_sound_beside.false in
    let same = sym (c.is_sound_beside.ensures.same c.if-not-is_sound_beside.false) ∙ c.if-not-same.false in
    call_both _ _ _ _ c.if-table-ne5128.false c.load-top.ensures.0 right same c.serve_word-answer.ensures (λ i. (small i).fits) c.in-Ok.is (λ i. (bytes i).fits) c.packed.ensures c.store_both.ensures.0 c.touched-touched.ensures c.store_both.ensures.1 refl

pub returns-in-Err : goal.returns-in-Err
returns-in-Err c =
    let right = sym c.is_sound_beside.ensures.says ∙ c.if-not-is_sound_beside.false in
    let same = sym (c.is_sound_beside.ensures.same c.if-not-is_sound_beside.false) ∙ c.if-not-same.false in
    call_neither _ _ _ _ c.if-table-ne5128.false c.load-top.ensures.0 right same c.serve_word-answer.ensures c.in-Err.is c.refused-in-Err.ensures
