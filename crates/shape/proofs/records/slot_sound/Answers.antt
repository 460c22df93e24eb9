-- src/records.rt, slot_sound: result ≡ s5_slot t.now (view t.now).k p.0 i.0
use mathlib.Core.Path.{refl, sym, ◌∙◌}
use borrow.Author.Tests.{not-true, not-false, eqb-true}
use Rattle.tables.specs.View.{entry_in}
use Rattle.sound.specs.Clauses.{when, s5_slot}
use Rattle.shape.specs.Laws.Records.{slot_empty}
use Rattle.shape.proofs.records.slot_sound.Goals as goal

pub returns-then-slot_word : goal.returns-then-slot_word
unfolding entry_in when s5_slot
returns-then-slot_word c = sym (slot_empty _ _ _ (eqb-true _ 0 (sym c.slot_word.ensures ∙ c.if-slot_word.true)))

pub returns-then-not-f : goal.returns-then-not-f
unfolding entry_in when s5_slot
returns-then-not-f c =
    let z = c.slot_word in
    rw (c.entry-f.ensures.slot, not-true c.entry-f.result.present c.if-not-f.true, ← z.ensures, c.if-slot_word.false) refl

pub returns : goal.returns
unfolding entry_in when s5_slot
returns c = rw (c.entry-f.ensures.slot, not-false c.entry-f.result.present c.if-not-f.false, c.requires.2.there) refl
