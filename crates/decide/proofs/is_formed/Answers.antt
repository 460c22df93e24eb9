-- src/lib.rt, is_formed: result ≡ formed t.now
use mathlib.Core.Path.{sym, ◌∙◌, ap}
use Rattle.sound.specs.Laws.Tests.{and_says, never}
use Rattle.shape.specs.AtOnce.{formed}
use Rattle.decide.specs.Laws.Decide.{failed, passed, and_is, top_first}
use mathlib.Core.Bool.{not}
use Rattle.decide.proofs.is_formed.Goals as goal

pub returns-then-told : goal.returns-then-told
unfolding formed
returns-then-told c = sym (c.requires.1 c.if-told.true)

pub returns-then-not-first_sound : goal.returns-then-not-first_sound
unfolding formed
returns-then-not-first_sound c = never _ (λ q. failed c.first_sound.ensures (ap not c.if-not-first_sound.true) (and_says _ _ q).0)

pub shapes_sound-requires : goal.shapes_sound-requires
unfolding formed
shapes_sound-requires c = let asked = c.requires in (asked.0, top_first asked.0 (passed c.first_sound.ensures (ap not c.if-not-first_sound.false)))

pub returns : goal.returns
unfolding formed
returns c = c.shapes_sound.ensures ∙ and_is _ _ (passed c.first_sound.ensures (ap not c.if-not-first_sound.false))
