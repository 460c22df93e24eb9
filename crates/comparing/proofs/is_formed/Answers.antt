-- src/lib.rt, is_formed: ComparedTo sheet.now t.now 16 (formed t.now) result same.new
use mathlib.Core.Path.{refl, ap}
use Rattle.sound.specs.Laws.Tests.{and_says, never}
use Rattle.shape.specs.AtOnce.{formed}
use Rattle.decide.specs.Laws.Decide.{failed, passed, and_is, top_first}
use Rattle.comparing.specs.Laws.Once.{same_start, compared_refused, compared_as}
use mathlib.Core.Bool.{not}
use Rattle.comparing.proofs.is_formed.Goals as goal

pub returns-then-not-first_sound : goal.returns-then-not-first_sound
unfolding formed
returns-then-not-first_sound c = compared_refused (never _ (λ q. failed c.first_sound.ensures (ap not c.if-not-first_sound.true) (and_says _ _ q).0))

pub children-requires : goal.children-requires
unfolding formed
children-requires c = refl

pub compare_each-requires : goal.compare_each-requires
unfolding formed
compare_each-requires c =
    let asked = c.requires in
    (asked.0, top_first asked.0 (passed c.first_sound.ensures (ap not c.if-not-first_sound.false)), c.children.ensures, asked.1, same_start _ _ asked.2)

pub returns : goal.returns
unfolding formed
returns c = compared_as (and_is _ _ (passed c.first_sound.ensures (ap not c.if-not-first_sound.false))) c.compare_each.ensures
