-- src/lib.rt, mark_header: MarkSays (view t.now).k (5 * p.0 + 1) result mark.new
use mathlib.Core.Path.{sym, ◌∙◌}
use native.Mathlib.Omega.{arith}
use borrow.Author.Tests.{not-true, not-false}
use Rattle.marking.specs.Laws.Marking.{says_rooted, header_absent, header_marks}
use Rattle.marking.proofs.mark_header.Goals as goal

pub returns-then-is_rooted : goal.returns-then-is_rooted
returns-then-is_rooted c = let h = c.requires in says_rooted _ h.shaped _ 0 (omega arith) h.marked (sym c.is_rooted.ensures ∙ c.if-is_rooted.true)

pub returns-then-not-h : goal.returns-then-not-h
returns-then-not-h c = let h = c.requires in let f = c.header-h in header_absent _ h.shaped h.in_p h.marked f.ensures (not-true f.result.present c.if-not-h.true)

pub returns : goal.returns
returns c =
    let h = c.requires in
    let f = c.header-h in
    rw c.is_now.ensures (header_marks _ h.shaped h.in_p h.marked f.ensures (sym c.is_rooted.ensures ∙ c.if-is_rooted.false) (not-false f.result.present c.if-not-h.false) c.mark_equal.ensures)
