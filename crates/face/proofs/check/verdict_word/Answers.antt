-- src/check.rt, verdict_word: result ≡ result_of 0 (checked v)
use mathlib.Core.Path.{ap, sym, ◌∙◌}
use Rattle.verdict.specs.Verdict.{checked}
use Rattle.verdict.specs.declared.Verdict.{Verdict}
use Rattle.face.specs.Face.{result_of}
use native.Mathlib.Omega.{arith}
use Rattle.face.proofs.check.verdict_word.Goals as goal

pub packed-requires : goal.packed-requires
unfolding result_of checked
packed-requires c = (omega arith, omega arith, omega arith)

pub packed-requires-in-Fails : goal.packed-requires-in-Fails
unfolding result_of checked
packed-requires-in-Fails c = let h = c.requires.fails _ _ c.in-Fails.is in (omega arith, omega arith, omega (arith, h.0, h.1))

pub refused-requires : goal.refused-requires
unfolding result_of checked
refused-requires c = omega arith

pub returns-in-Accepted : goal.returns-in-Accepted
unfolding result_of checked
returns-in-Accepted c = c.packed.ensures ∙ ap (λ (v : Verdict). result_of 0 (checked v)) (sym c.in-Accepted.is)

pub returns-in-Fails : goal.returns-in-Fails
unfolding result_of checked
returns-in-Fails c = c.packed-in-Fails.ensures ∙ ap (λ (v : Verdict). result_of 0 (checked v)) (sym c.in-Fails.is)

pub returns-in-Length : goal.returns-in-Length
unfolding result_of checked
returns-in-Length c = c.refused.ensures ∙ ap (λ (v : Verdict). result_of 0 (checked v)) (sym c.in-Length.is)
