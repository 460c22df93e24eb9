-- src/lib.rt, mark_later: MarkSays (view t.now).k (5 * p.0 + (j + 1)) result mark.new
use native.Mathlib.Omega.{arith}
use borrow.Author.Tests.{not-true, not-false}
use Rattle.marking.specs.Laws.Marking.{structure_absent, own_first}
use Rattle.marking.proofs.mark_later.Goals as goal

pub returns-then-not-f : goal.returns-then-not-f
returns-then-not-f c = let h = c.requires in let f = c.structure-f in structure_absent _ h.2.shaped h.2.in_p (omega (arith, h.0)) h.1 h.2.marked f.ensures (not-true f.result.present c.if-not-f.true)

pub returns : goal.returns
returns c =
    let h = c.requires in
    own_first _ h.2.shaped h.2.in_p (omega (arith, h.0)) h.1 h.2.marked c.structure-f.ensures (λ z. omega (arith, h.0, z.1)) (not-false c.structure-f.result.present c.if-not-f.false) c.header-h.ensures c.mark_either.ensures
