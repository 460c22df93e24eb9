-- src/take_service.rt, take_entry: Ran (take (view t.old) s.0) t.old result t.new
use Rattle.std.proofs.lemmas.Result.{err_from_is_err_and}
use mathlib.Core.Path.{sym, ◌∙◌}
use Rattle.tables.specs.Laws.Search.{lowest_some}
use Rattle.tables.specs.Laws.Answers.{found_is, or_err, or_ok}
use Rattle.tables.specs.Laws.Encode.{is_canon}
use Rattle.blocks.specs.Laws.TakeExits.{can_take, take_kept, take_exit_done}
use native.Mathlib.Omega.{arith}
use Rattle.blocks.proofs.take_service.take_entry.Goals as goal

pub returned_slot-requires : goal.returned_slot-requires
returned_slot-requires c = c.requires.seen.given_small

pub returns-in_err-i : goal.returns-in_err-i
returns-in_err-i c =
    let p = err_from_is_err_and c.from_residual.result c.from_residual.ensures.1 in
    let q = or_err _ c.ok_or.ensures.value c.in_err-i.was in
    rw (p.1, p.2, q.1) (take_kept c.requires (found_is _ (sym q.0 ∙ c.returned_slot.ensures)))

pub take_back-requires : goal.take_back-requires
take_back-requires c = (can_take c.requires, (lowest_some 32 _ _ (found_is _ (sym (or_ok _ _ c.ok_or.ensures.value c.in_ok-i.was) ∙ c.returned_slot.ensures))).below)

pub settle_regions-requires : goal.settle_regions-requires
settle_regions-requires c =
    let canon = is_canon c.take_back.ensures in
    (canon, omega (arith, c.requires.caller, c.requires.seen.given_small))

pub returns : goal.returns
returns c = take_exit_done c.requires (found_is _ (sym (or_ok _ _ c.ok_or.ensures.value c.in_ok-i.was) ∙ c.returned_slot.ensures)) c.take_back.ensures c.settle_regions.ensures
