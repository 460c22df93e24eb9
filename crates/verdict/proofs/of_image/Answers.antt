-- src/lib.rt, of_image: result ≡ image_verdict board b.now
use mathlib.Core.Path.{refl}
use Rattle.verdict.proofs.Laws.Stages.{image_other, image_said}
use Rattle.verdict.proofs.of_image.Goals as goal

pub returns-then-b-ne5128 : goal.returns-then-b-ne5128
returns-then-b-ne5128 c = image_other _ _ c.if-b-ne5128.true

pub load-requires : goal.load-requires
load-requires c = (c.if-b-ne5128.false, refl)

pub returns : goal.returns
returns c = image_said _ _ c.if-b-ne5128.false c.load.ensures.0 c.of_table.ensures
