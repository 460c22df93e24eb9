-- src/entries.rt, full_slot: result ≡ full_slot (view t.now).k p.0 i.0
use mathlib.Core.Path.{refl}
use borrow.Author.Tests.{not-true, not-false}
use Rattle.tables.specs.View.{entry_in}
use Rattle.sound.specs.Clauses.{when, full}
use Rattle.decide.specs.Entries.{full_slot}
use Rattle.decide.proofs.entries.full_slot.Goals as goal

pub returns-then-not-f : goal.returns-then-not-f
unfolding full_slot when full entry_in
returns-then-not-f c = let f = c.entry-f in rw (f.ensures.slot, not-true f.result.present c.if-not-f.true) refl

pub returns-then-not-r : goal.returns-then-not-r
unfolding full_slot when full entry_in
returns-then-not-r c = let f = c.entry-f in rw (f.ensures.slot, not-false f.result.present c.if-not-f.false, not-true f.result.rights.read c.if-not-r.true) refl

pub returns-then-not-r-2 : goal.returns-then-not-r-2
unfolding full_slot when full entry_in
returns-then-not-r-2 c = let f = c.entry-f in rw (f.ensures.slot, not-false f.result.present c.if-not-f.false, not-false f.result.rights.read c.if-not-r.false, not-true f.result.rights.write c.if-not-r-2.true) refl

pub returns : goal.returns
unfolding full_slot when full entry_in
returns c = let f = c.entry-f in rw (f.ensures.slot, not-false f.result.present c.if-not-f.false, not-false f.result.rights.read c.if-not-r.false, not-false f.result.rights.write c.if-not-r-2.false) refl
