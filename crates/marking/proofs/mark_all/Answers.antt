-- src/lib.rt, mark_all: MarkSays (view t.now).k 80 result mark.new
use Rattle.marking.specs.Laws.Marking.{says_fails, can_mark, top_marks}
use native.Mathlib.Omega.{arith}
use mathlib.Core.Path.{ap}
use mathlib.Core.Bool.{not}
use Rattle.marking.proofs.mark_all.Goals as goal

pub mark_areas-requires : goal.mark_areas-requires
mark_areas-requires c = let h = c.requires in can_mark h.1 (omega (arith, h.0.within)) c.loop-p.invariant

pub returns-then-not-mark_areas : goal.returns-then-not-mark_areas
returns-then-not-mark_areas c = says_fails c.mark_areas.ensures (ap not c.if-not-mark_areas.true)

pub returns : goal.returns
returns c = let h = c.requires in let i = c.loop-p.invariant in top_marks h.1 h.0 (omega arith) (omega (arith, h.0.within)) i
