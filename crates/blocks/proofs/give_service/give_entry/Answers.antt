-- src/give_service.rt, give_entry: Ran (give (view t.old) p.0 s.0 r whole) t.old result t.new
use Rattle.std.proofs.lemmas.Result.{err_from_is_err_and}
use mathlib.Core.Path.{sym, ◌∙◌}
use Rattle.tables.specs.Laws.Search.{lowest_some}
use Rattle.tables.specs.Laws.Answers.{found_is, or_err, or_ok}
use Rattle.blocks.specs.Laws.GiveExits.{can_hand, give_full, give_more, give_whole, give_exit_done}
use Rattle.blocks.proofs.give_service.give_entry.Goals as goal

pub free_slot-requires : goal.free_slot-requires
free_slot-requires c = c.requires.in_p

pub returns-in_err-n : goal.returns-in_err-n
returns-in_err-n c =
    let p = err_from_is_err_and c.from_residual.result c.from_residual.ensures.1 in
    let q = or_err _ c.ok_or.ensures.value c.in_err-n.was in
    rw (p.1, p.2, q.1) (give_full c.requires _ _ (found_is _ (sym q.0 ∙ c.free_slot.ensures)))

pub returns-then-not-rights_within : goal.returns-then-not-rights_within
returns-then-not-rights_within c = give_more c.requires _ _ (found_is _ (sym (or_ok _ _ c.ok_or.ensures.value c.in_ok-n.was) ∙ c.free_slot.ensures)) (sym c.rights_within.ensures ∙ c.if-not-rights_within.true)

pub returns-then-f : goal.returns-then-f
returns-then-f c = give_whole c.requires _ _ (found_is _ (sym (or_ok _ _ c.ok_or.ensures.value c.in_ok-n.was) ∙ c.free_slot.ensures)) (sym c.rights_within.ensures ∙ c.if-not-rights_within.false) c.if-f.true

pub hand_over-requires : goal.hand_over-requires
hand_over-requires c = (can_hand c.requires, c.requires.in_p, (lowest_some 32 _ _ (found_is _ (sym (or_ok _ _ c.ok_or.ensures.value c.in_ok-n.was) ∙ c.free_slot.ensures))).below)

pub returns : goal.returns
returns c = give_exit_done c.requires _ _ (found_is _ (sym (or_ok _ _ c.ok_or.ensures.value c.in_ok-n.was) ∙ c.free_slot.ensures)) (sym c.rights_within.ensures ∙ c.if-not-rights_within.false) c.if-f.false c.hand_over.ensures
