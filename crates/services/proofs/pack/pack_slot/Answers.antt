-- src/pack.rt, pack_slot: Turned (view t.old) p.0 i.0 moved t.new result
use mathlib.Core.Path.{sym, ◌∙◌}
use borrow.Author.Tests.{not-true, not-false}
use Rattle.tables.specs.Laws.Search.{lowest_some}
use Rattle.tables.specs.Laws.Answers.{found_is}
use Rattle.services.specs.Laws.PackExits.{turn_empty, turn_full, turn_above, turn_moves}
use Rattle.services.proofs.pack.pack_slot.Goals as goal

pub returns-then-not-f : goal.returns-then-not-f
returns-then-not-f c = turn_empty c.requires c.entry-f.ensures (not-true _ c.if-not-f.true)

pub returns-in_default : goal.returns-in_default
returns-in_default c = turn_full c.requires c.entry-f.ensures (not-false _ c.if-not-f.false) (found_is _ (sym c.in_default.is ∙ c.free_slot-found.ensures))

pub returns-then-j-i : goal.returns-then-j-i
returns-then-j-i c = turn_above c.requires c.entry-f.ensures (not-false _ c.if-not-f.false) _ (found_is _ (sym c.in-Some.is ∙ c.free_slot-found.ensures)) c.if-j-i.true

pub move_entry-requires : goal.move_entry-requires
move_entry-requires c = (record { canon = c.requires.canon; in_p = c.requires.in_p; in_i = (lowest_some 32 _ _ (found_is _ (sym c.in-Some.is ∙ c.free_slot-found.ensures))).below; present = (not-false _ c.if-not-f.false); given_small = c.entry-f.ensures.given_small; start_small = c.entry-f.ensures.start_small; end_small = c.entry-f.ensures.end_small }, c.requires.in_i)

pub returns : goal.returns
returns c = turn_moves c.requires c.entry-f.ensures (not-false _ c.if-not-f.false) _ (found_is _ (sym c.in-Some.is ∙ c.free_slot-found.ensures)) c.if-j-i.false c.move_entry.ensures
