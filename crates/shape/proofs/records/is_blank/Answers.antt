-- src/records.rt, is_blank: result ≡ blank_region x
use mathlib.Core.Path.{refl}
use Rattle.sound.specs.Clauses.{blank_region}
use Rattle.shape.proofs.records.is_blank.Goals as goal

pub returns-then-x : goal.returns-then-x
unfolding blank_region
returns-then-x c = rw c.if-x.true refl

pub returns : goal.returns
unfolding blank_region
returns c = rw c.if-x.false refl
