-- src/lib.rt, later_off: result ≡ (not (ltb m n) || apart ((view t.now).k.area (n / 5) (n % 5)) lo.0 hi.0)
use mathlib.Core.Path.{refl, ap}
use mathlib.Core.Bool.{not}
use borrow.Author.Tests.{not-true, not-false, lt-ltb, le-ltb}
use Rattle.tables.specs.View.{structure_area}
use Rattle.tables.specs.Settle.{apart}
use Rattle.owning.proofs.later_off.Goals as goal

pub returns-then-m-n : goal.returns-then-m-n
unfolding apart structure_area
returns-then-m-n c = rw (le-ltb _ _ c.if-m-n.true) refl

pub returns-then-not-f : goal.returns-then-not-f
unfolding apart structure_area
returns-then-not-f c = let f = c.area-f in rw (lt-ltb _ _ c.if-m-n.false, f.ensures.area, not-true f.result.present c.if-not-f.true) refl

pub returns : goal.returns
unfolding apart structure_area
returns c = let f = c.area-f in rw (lt-ltb _ _ c.if-m-n.false, f.ensures.area, not-false f.result.present c.if-not-f.false) (ap not c.meet.ensures)
