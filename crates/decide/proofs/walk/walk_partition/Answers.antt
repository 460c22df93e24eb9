-- src/walk.rt, walk_partition: WalkSays t.now order.now.slots order.now.counts mark.now (q.0 + 1) 0 result next.new
use mathlib.Core.Path.{sym, ◌∙◌, ap}
use Rattle.decide.specs.Laws.Decide.{passed}
use Rattle.decide.specs.Laws.Walk.{row_absent, walk_says}
use mathlib.Core.Bool.{not}
use Rattle.decide.proofs.walk.walk_partition.Goals as goal

pub is_present-requires : goal.is_present-requires
is_present-requires c = c.requires.2

pub returns-then-not-is_present : goal.returns-then-not-is_present
returns-then-not-is_present c = let h = c.requires in walk_says (row_absent h.0 h.1 (sym c.is_present.ensures ∙ c.if-not-is_present.true))

pub walk_entries-requires : goal.walk_entries-requires
walk_entries-requires c = let h = c.requires in (h.0, h.1, h.2, passed c.is_present.ensures (ap not c.if-not-is_present.false))

pub returns : goal.returns
returns c = c.walk_entries.ensures
