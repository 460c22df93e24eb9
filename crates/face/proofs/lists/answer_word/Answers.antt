-- src/lists.rt, answer_word: result ≡ result_of 0 o
use mathlib.Core.Path.{ap, sym, subst, ◌∙◌}
use Rattle.face.specs.Face.{result_of}
use Rattle.face.specs.Lists.{Small}
use native.Mathlib.Omega.{arith}
use Rattle.face.proofs.lists.answer_word.Goals as goal

pub packed-requires : goal.packed-requires
unfolding result_of
packed-requires c = (omega arith, omega arith, subst Small c.in-Ok.is c.requires)

pub refused-requires : goal.refused-requires
unfolding result_of
refused-requires c = omega arith

pub returns-in-Ok : goal.returns-in-Ok
unfolding result_of
returns-in-Ok c = c.packed.ensures ∙ ap (result_of 0) (sym c.in-Ok.is)

pub returns-in-Err : goal.returns-in-Err
unfolding result_of
returns-in-Err c = c.refused.ensures ∙ ap (result_of 0) (sym c.in-Err.is)
