-- src/opening.rt, noted: result ≡ slot_noted mask x
use borrow.Author.Tests.{not-true, not-false}
use Rattle.loaded.specs.Laws.Regions.{noted_none, noted_loaded}
use Rattle.loaded.proofs.opening.noted.Goals as goal

pub returns-then-not-x : goal.returns-then-not-x
returns-then-not-x c = noted_none _ _ (not-true _ c.if-not-x.true)

pub with_slot-requires : goal.with_slot-requires
with_slot-requires c = c.requires

pub returns : goal.returns
returns c = noted_loaded _ _ (not-false _ c.if-not-x.false) c.with_slot.ensures
