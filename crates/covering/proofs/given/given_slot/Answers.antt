-- src/given.rt, given_slot: result ≡ given_slot (view t.now) p.0 i.0
use mathlib.Core.Path.{refl}
use borrow.Author.Tests.{not-true, not-false, eq-eqb, ne_eqb}
use Rattle.tables.specs.View.{entry_in}
use Rattle.sound.specs.Clauses.{when}
use Rattle.covering.specs.Cover.{given_slot}
use Rattle.covering.proofs.given.given_slot.Goals as goal

pub returns-then-not-f : goal.returns-then-not-f
unfolding given_slot when entry_in
returns-then-not-f c = let f = c.entry-f in rw (f.ensures.slot, not-true f.result.present c.if-not-f.true) refl

pub returns-then-not-whole_right : goal.returns-then-not-whole_right
unfolding given_slot when entry_in
returns-then-not-whole_right c =
    let f = c.entry-f in
    let w = c.whole_right in
    rw (f.ensures.slot, f.ensures.opened, not-false f.result.present c.if-not-f.false, ← w.ensures, c.if-not-whole_right.true) refl

pub returns-then-f-eq0 : goal.returns-then-f-eq0
unfolding given_slot when entry_in
returns-then-f-eq0 c =
    let f = c.entry-f in
    let w = c.whole_right in
    rw (f.ensures.slot, f.ensures.opened, not-false f.result.present c.if-not-f.false, ← w.ensures, c.if-not-whole_right.false, eq-eqb _ 0 c.if-f-eq0.true) refl

pub returns : goal.returns
unfolding given_slot when entry_in
returns c =
    let f = c.entry-f in
    let w = c.whole_right in
    rw (f.ensures.slot, f.ensures.opened, not-false f.result.present c.if-not-f.false, ← w.ensures, c.if-not-whole_right.false, ne_eqb _ 0 c.if-f-eq0.false) c.is_child.ensures
