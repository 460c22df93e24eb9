-- src/lib.rt, call_bytes: CallLent board table.old word second.old result table.new second.new
use mathlib.Core.Path.{refl, sym, ◌∙◌}
use Rattle.tables.specs.Laws.Top.{top_at}
use Rattle.rules.proofs.Laws.Brief.{call_brief, brief_first}
use Rattle.face.specs.Laws.Face.{call_none, call_lent, call_tells, call_told, call_stored, call_stands, call_lent_refused, call_caller_small}
use native.Mathlib.Omega.{arith}
use Rattle.face.proofs.call_bytes.Goals as goal
use Rattle.face.proofs.call_bytes.Goals.{then-not-stands, else-not-stands}

pub refused-requires : goal.refused-requires
refused-requires c = omega arith

pub returns-then-table-ne5128 : goal.returns-then-table-ne5128
returns-then-table-ne5128 c = call_none _ _ c.if-table-ne5128.true c.refused.ensures

pub load-top-requires : goal.load-top-requires
load-top-requires c = (c.if-table-ne5128.false, refl)

pub call_table-answer-requires : goal.call_table-answer-requires
call_table-answer-requires c = top_at c.load-top.ensures.0 c.load-top.ensures.1

pub store-requires : goal.store-requires
store-requires c =
    let size = c.if-table-ne5128.false in
    let load = c.load-top.ensures.0 in
    let answer = c.call_table-answer.ensures in
    let small = c.slice_known-1.given in
    let done = c.in-Ok.is in
    (size, call_tells _ size load answer (λ i. (small i).fits) done, call_told _ size load answer (λ i. (small i).fits) done, call_stored _ size load answer (λ i. (small i).fits) done)

pub packed-requires : goal.packed-requires
packed-requires c = (omega arith, omega (arith, call_caller_small _ c.if-table-ne5128.false c.load-top.ensures.0 c.call_table-answer.ensures), omega (arith, brief_first (call_brief _ _ _) (sym c.call_table-answer.ensures.ran.outcome ∙ c.in-Ok.is)))

pub refused-requires-in-Err : goal.refused-requires-in-Err
refused-requires-in-Err c = omega (arith, call_caller_small _ c.if-table-ne5128.false c.load-top.ensures.0 c.call_table-answer.ensures)

pub returns-after-not-stands : goal.returns-after-not-stands
returns-after-not-stands c =
    let size = c.if-table-ne5128.false in
    let load = c.load-top.ensures.0 in
    let answer = c.call_table-answer.ensures in
    let small = c.slice_known-1.given in
    call_lent _ size load answer c.in-Ok.is c.packed.ensures
    (elim c.if-not-stands.branch [
      | then-not-stands w ↦ w.table-is ∙ w.store.ensures
      | else-not-stands w ↦ w.table-is ∙ call_stands _ size load answer (λ i. (small i).fits) w.if-not-stands.false
    ])
    refl

pub returns-in-Err : goal.returns-in-Err
returns-in-Err c = call_lent_refused _ c.if-table-ne5128.false c.load-top.ensures.0 c.call_table-answer.ensures c.in-Err.is c.refused-in-Err.ensures
