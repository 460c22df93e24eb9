-- src/pick.rt, free_entry: Picks t.now s.0 result
use borrow.Author.Tests.{not-true, not-false}
use Rattle.blocks.specs.Laws.Pick.{pick_none, pick_closed, pick_given, pick_free}
use Rattle.blocks.proofs.pick.free_entry.Goals as goal

pub entry-f-requires : goal.entry-f-requires
entry-f-requires c = (c.first.ensures.current_small, c.requires)

pub returns-then-not-f : goal.returns-then-not-f
returns-then-not-f c = pick_none c.first.ensures.current c.entry-f.ensures (not-true _ c.if-not-f.true)

pub returns-then-not-f-2 : goal.returns-then-not-f-2
returns-then-not-f-2 c = pick_closed c.first.ensures.current c.entry-f.ensures (not-false _ c.if-not-f.false) (not-true _ c.if-not-f-2.true)

pub returns-then-f-ne0 : goal.returns-then-f-ne0
returns-then-f-ne0 c = pick_given c.first.ensures.current c.entry-f.ensures (not-false _ c.if-not-f.false) (not-false _ c.if-not-f-2.false) c.if-f-ne0.true

pub returns : goal.returns
returns c = pick_free c.first.ensures.current c.entry-f.ensures (not-false _ c.if-not-f.false) (not-false _ c.if-not-f-2.false) c.if-f-ne0.false
