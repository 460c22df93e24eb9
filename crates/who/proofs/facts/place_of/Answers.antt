-- src/facts.rt, place_of: result ≡ place_of (view t.now).k p.0 l.0
use Rattle.tables.specs.Laws.Search.{lowest_some}
use Rattle.tables.specs.Laws.Answers.{looked_slot}
use Rattle.who.specs.Laws.Who.{place_of_none, place_of_entry, place_of_empty}
use Rattle.who.proofs.facts.place_of.Goals as goal

pub returns-in_default : goal.returns-in_default
returns-in_default c = place_of_none _ _ _ (looked_slot _ c.holding_slot-looked.ensures c.in_default.is)

pub entry-f-requires : goal.entry-f-requires
entry-f-requires c = (c.requires, (lowest_some 32 _ _ (looked_slot _ c.holding_slot-looked.ensures c.in-Some.is)).below)

pub returns-then-f : goal.returns-then-f
returns-then-f c = place_of_entry _ _ _ _ _ (looked_slot _ c.holding_slot-looked.ensures c.in-Some.is) c.entry-f.ensures.slot c.if-f.true

pub returns-else-f : goal.returns-else-f
returns-else-f c = place_of_empty _ _ _ _ _ (looked_slot _ c.holding_slot-looked.ensures c.in-Some.is) c.entry-f.ensures.slot c.if-f.false
