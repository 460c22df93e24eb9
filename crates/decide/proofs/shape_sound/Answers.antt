-- src/lib.rt, shape_sound: result ≡ shape_at t.now p.0
use mathlib.Core.Path.{sym, ◌∙◌, ap}
use Rattle.sound.specs.Laws.Tests.{and_says, never}
use Rattle.shape.specs.AtOnce.{shape_at}
use Rattle.decide.specs.Laws.Decide.{failed, passed, absent_shape, and_is}
use mathlib.Core.Bool.{not}
use Rattle.decide.proofs.shape_sound.Goals as goal

pub returns-then-not-family_sound : goal.returns-then-not-family_sound
unfolding shape_at
returns-then-not-family_sound c = never _ (λ q. failed c.family_sound.ensures (ap not c.if-not-family_sound.true) (and_says _ _ q).0)

pub returns-then-not-is_present : goal.returns-then-not-is_present
unfolding shape_at
returns-then-not-is_present c = absent_shape _ _ c.requires (passed c.family_sound.ensures (ap not c.if-not-family_sound.false)) (sym c.is_present.ensures ∙ c.if-not-is_present.true)

pub returns : goal.returns
unfolding shape_at
returns c = c.record_sound.ensures ∙ and_is _ _ (passed c.family_sound.ensures (ap not c.if-not-family_sound.false))
