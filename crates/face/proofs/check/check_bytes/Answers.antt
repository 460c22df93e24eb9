-- src/check.rt, check_bytes: result ≡ result_of 0 (checked (image_verdict board table.now))
use mathlib.Core.Path.{sym, subst}
use Rattle.verdict.specs.Verdict.{ClauseNamed}
use Rattle.verdict.proofs.Theorem.{image_few}
use Rattle.face.proofs.check.check_bytes.Goals as goal

pub verdict_word-requires : goal.verdict_word-requires
verdict_word-requires c = subst ClauseNamed (sym c.of_image.ensures) (image_few _ _)

pub returns : goal.returns
returns c = rw (← c.of_image.ensures) c.verdict_word.ensures
