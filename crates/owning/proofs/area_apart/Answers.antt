-- src/lib.rt, area_apart: result ≡ s8_apart (view t.now).k p.0 j
use mathlib.Core.Path.{refl}
use borrow.Author.Tests.{not-true, not-false}
use Rattle.tables.specs.View.{structure_area}
use Rattle.sound.specs.Clauses.{when, s8_apart}
use Rattle.owning.proofs.area_apart.Goals as goal

pub returns-then-not-f : goal.returns-then-not-f
unfolding s8_apart when structure_area
returns-then-not-f c = let f = c.area-f in rw (f.ensures.area, not-true f.result.present c.if-not-f.true) refl

pub returns : goal.returns
unfolding s8_apart when structure_area
returns c = let f = c.area-f in rw (f.ensures.area, not-false f.result.present c.if-not-f.false) c.none_later.ensures
