-- src/lib.rt, mark_either: MarksEither (view t.now).k one.0 other.0 (area_between lo.0 hi.0) mark.old result mark.new
use mathlib.Core.Path.{refl, sym}
use Rattle.marking.specs.Marking.{in_one}
use Rattle.marking.specs.Laws.Marking.{marks_none, then_other, now_is, before_is}
use Rattle.marking.proofs.mark_either.Goals as goal

pub mark_equal-requires-in-Nobody : goal.mark_equal-requires-in-Nobody
mark_equal-requires-in-Nobody c = let h = c.requires in let (e, _) = marks_none c.mark_equal.ensures c.in-Nobody.is in (h.1, h.2, rw e h.3)

pub returns-in-Nobody : goal.returns-in-Nobody
returns-in-Nobody c = rw c.is_now.ensures (then_other c.mark_equal.ensures c.in-Nobody.is c.mark_equal-in-Nobody.ensures)

pub returns-in-Now : goal.returns-in-Now
returns-in-Now c = in_one _ refl (λ z. now_is (sym z)) c.in-Now.ensures

pub returns-in-Before : goal.returns-in-Before
returns-in-Before c = in_one _ refl (λ z. before_is (sym z)) c.in-Before.ensures
