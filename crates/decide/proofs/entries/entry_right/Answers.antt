-- src/entries.rt, entry_right: result ≡ entry_right (view t.now) mark.now p.0 i.0
use mathlib.Core.Path.{refl, ap, sym}
use mathlib.Core.Bool.{Bool, not, beq}
use borrow.Author.Tests.{eq-eqb, ne_eqb}
use Rattle.tables.specs.View.{entry_of, entry_in}
use Rattle.sound.specs.Clauses.{when}
use Rattle.decide.specs.Local.{entry_right}
use Rattle.decide.specs.Laws.Entries.{whole_given, not_whole, given_divides}
use Rattle.marking.specs.Laws.Marking.{mark_tells}
use Rattle.decide.proofs.entries.entry_right.Goals as goal

pub returns-then-f : goal.returns-then-f
unfolding entry_right when entry_in
returns-then-f c = rw (c.requires.4.slot, c.requires.4.opened, c.requires.5) (whole_given _ _ _ c.if-f.true (given_divides _ _ _ (entry_of c.args.f) c.if-f-ne0.true))

pub returns-then-f-ne0 : goal.returns-then-f-ne0
unfolding entry_right when entry_in
returns-then-f-ne0 c = rw (c.requires.4.slot, c.requires.4.opened, c.requires.5, ne_eqb _ 0 c.if-f-ne0.true) (not_whole _ _ _ c.if-f.false c.is_child.ensures)

pub returns-then-not-whole_right : goal.returns-then-not-whole_right
unfolding entry_right when entry_in
returns-then-not-whole_right c =
    let w = c.whole_right in
    rw (c.requires.4.slot, c.requires.4.opened, c.requires.5, ← w.ensures, c.if-not-whole_right.true) refl

pub returns : goal.returns
unfolding entry_right when entry_in
returns c =
    let w = c.whole_right in
    rw (c.requires.4.slot, c.requires.4.opened, c.requires.5, ← w.ensures, c.if-not-whole_right.false, eq-eqb _ 0 c.if-f-ne0.false) (ap (λ (x : Bool). beq c.args.f.opened (not x)) (sym (mark_tells _ c.args.p.0 c.args.i.0 c.requires.1 c.has_slot-taken.ensures refl)))
