-- src/cut_service.rt, cut_entry: Ran (cut (view t.old) s.0 l.0) t.old result t.new
use mathlib.Core.Path.{sym, ◌∙◌}
use Rattle.std.proofs.lemmas.Result.{err_from_is_err_and}
use Rattle.tables.specs.Laws.Search.{lowest_some}
use Rattle.tables.specs.Laws.Answers.{found_is, or_err, or_ok}
use Rattle.blocks.specs.Laws.CutExits.{can_split, cut_low, cut_high, cut_full, cut_whole, cut_exit_done}
use Rattle.blocks.proofs.cut_service.cut_entry.Goals as goal

pub returns-then-f-l : goal.returns-then-f-l
returns-then-f-l c = cut_low c.requires c.if-f-l.true

pub returns-then-l-f : goal.returns-then-l-f
returns-then-l-f c = cut_high c.requires c.if-f-l.false c.if-l-f.true

pub free_slot-requires : goal.free_slot-requires
free_slot-requires c = c.first.ensures.current_small

pub returns-in_err-n : goal.returns-in_err-n
returns-in_err-n c =
    let p = err_from_is_err_and c.from_residual.result c.from_residual.ensures.1 in
    let q = or_err _ c.ok_or.ensures.value c.in_err-n.was in
    rw (p.1, p.2, q.1) (cut_full c.requires c.first.ensures.current c.if-f-l.false c.if-l-f.false (found_is _ (sym q.0 ∙ c.free_slot.ensures)))

pub returns-then-f : goal.returns-then-f
returns-then-f c = cut_whole c.requires c.first.ensures.current c.if-f-l.false c.if-l-f.false (found_is _ (sym (or_ok _ _ c.ok_or.ensures.value c.in_ok-n.was) ∙ c.free_slot.ensures)) c.if-f.true

pub split_entry-requires : goal.split_entry-requires
split_entry-requires c = (can_split c.requires c.first.ensures.current_small, (lowest_some 32 _ _ (found_is _ (sym (or_ok _ _ c.ok_or.ensures.value c.in_ok-n.was) ∙ c.free_slot.ensures))).below, c.requires.line)

pub returns : goal.returns
returns c = cut_exit_done c.requires c.first.ensures.current c.if-f-l.false c.if-l-f.false (found_is _ (sym (or_ok _ _ c.ok_or.ensures.value c.in_ok-n.was) ∙ c.free_slot.ensures)) c.if-f.false c.split_entry.ensures
