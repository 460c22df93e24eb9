-- src/lib.rt, mark_areas: MarkSays (view t.now).k (5 * (p.0 + 1)) result mark.new
use mathlib.Core.Path.{sym, ◌∙◌, ap}
use Rattle.marking.specs.Laws.Marking.{says_fails, absent_marks, five_marks}
use native.Mathlib.Omega.{arith}
use mathlib.Core.Bool.{not}
use Rattle.marking.proofs.mark_areas.Goals as goal

pub returns-then-not-is_present : goal.returns-then-not-is_present
returns-then-not-is_present c = let h = c.requires in absent_marks h.shaped _ h.marked (sym c.is_present.ensures ∙ c.if-not-is_present.true)

pub returns-then-not-mark_header : goal.returns-then-not-mark_header
returns-then-not-mark_header c = says_fails c.mark_header.ensures (ap not c.if-not-mark_header.true)

pub returns-then-not-mark_first : goal.returns-then-not-mark_first
returns-then-not-mark_first c = says_fails c.mark_first.ensures (ap not c.if-not-mark_first.true)

pub mark_later-requires : goal.mark_later-requires
mark_later-requires c = let h = c.requires in (omega arith, omega arith, record { in_p = h.in_p; shaped = h.shaped; marked = c.loop-j.invariant })

pub returns-then-not-mark_later : goal.returns-then-not-mark_later
returns-then-not-mark_later c = says_fails c.mark_later.ensures (ap not c.if-not-mark_later.true)

pub returns : goal.returns
returns c = five_marks c.requires.shaped _ (omega arith) (omega arith) c.loop-j.invariant
