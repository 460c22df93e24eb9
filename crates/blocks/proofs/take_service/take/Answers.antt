-- src/take_service.rt, take: Ran (take (view t.old) s.0) t.old result t.new
use borrow.Author.Tests.{not-true, not-false}
use Rattle.blocks.specs.Laws.TakeExits.{take_none, take_not_given}
use Rattle.blocks.proofs.take_service.take.Goals as goal

pub entry-e-requires : goal.entry-e-requires
entry-e-requires c = (c.first.ensures.current_small, c.requires.1)

pub returns-then-not-e : goal.returns-then-not-e
returns-then-not-e c = take_none c.first.ensures.current c.entry-e.ensures (not-true _ c.if-not-e.true)

pub returns-then-e-eq0 : goal.returns-then-e-eq0
returns-then-e-eq0 c = take_not_given c.first.ensures.current c.entry-e.ensures (not-false _ c.if-not-e.false) c.if-e-eq0.true

pub take_entry-requires : goal.take_entry-requires
take_entry-requires c = record { canon = c.requires.0; now = c.first.ensures.current; caller = c.first.ensures.current_small; in_i = c.requires.1; seen = c.entry-e.ensures; present = not-false _ c.if-not-e.false; is_given = c.if-e-eq0.false; right = c.requires.2 }
