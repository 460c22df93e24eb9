-- src/merge_service.rt, merge: Ran (merge (view t.old) s.0 u.0) t.old result t.new
use borrow.Author.Tests.{not-true, not-false}
use Rattle.rules.specs.Laws.Ran.{ran_refused}
use Rattle.blocks.specs.Laws.MergeExits.{merge_none, merge_other_none}
use Rattle.blocks.proofs.merge_service.merge.Goals as goal

pub returns-then-not-e : goal.returns-then-not-e
returns-then-not-e c = ran_refused (merge_none _ c.first.ensures.current c.entry-e.ensures (not-true _ c.if-not-e.true))

pub returns-then-not-f : goal.returns-then-not-f
returns-then-not-f c = ran_refused (merge_other_none c.first.ensures.current c.entry-e.ensures (not-false _ c.if-not-e.false) c.entry-f.ensures (not-true _ c.if-not-f.true))

pub merge_entries-requires : goal.merge_entries-requires
merge_entries-requires c = record { canon = c.requires.0; now = c.first.ensures.current; caller = c.first.ensures.current_small; in_i = c.requires.1; in_u = c.requires.2; first = c.entry-e.ensures; first_there = not-false _ c.if-not-e.false; second = c.entry-f.ensures; second_there = not-false _ c.if-not-f.false; right = c.requires.3 }
