-- src/lib.rt, mark_first: MarkSays (view t.now).k (5 * p.0 + 2) result mark.new
use mathlib.Core.Path.{sym, ◌∙◌}
use mathlib.Core.Bool.{false≢true}
use native.Mathlib.Omega.{arith}
use borrow.Author.Tests.{not-true, not-false}
use Rattle.sound.proofs.Laws.MeansAreas.{rooted_means}
use Rattle.marking.specs.Laws.Marking.{says_rooted, structure_absent, own_first, parent_first}
use Rattle.marking.proofs.mark_first.Goals as goal

pub returns-then-is_rooted : goal.returns-then-is_rooted
returns-then-is_rooted c = let h = c.requires in says_rooted _ h.shaped _ 1 (omega arith) h.marked (sym c.is_rooted.ensures ∙ c.if-is_rooted.true)

pub returns-then-not-f : goal.returns-then-not-f
returns-then-not-f c = let h = c.requires in let f = c.structure-f in structure_absent _ h.shaped h.in_p (omega arith) (omega arith) h.marked f.ensures (not-true f.result.present c.if-not-f.true)

pub returns-then-f-e : goal.returns-then-f-e
returns-then-f-e c =
    let h = c.requires in
    parent_first _ h.shaped h.in_p (omega arith) (omega arith) h.marked c.structure-f.ensures (λ z. false≢true (sym (sym c.is_rooted.ensures ∙ c.if-is_rooted.false) ∙ (rooted_means _ 1).1 z)) (not-false c.structure-f.result.present c.if-not-f.false) c.header-h.ensures c.mark_either.ensures

pub returns : goal.returns
returns c =
    let h = c.requires in
    own_first _ h.shaped h.in_p (omega arith) (omega arith) h.marked c.structure-f.ensures (λ z. false≢true (sym (sym c.is_rooted.ensures ∙ c.if-is_rooted.false) ∙ (rooted_means _ 1).1 z)) (not-false c.structure-f.result.present c.if-not-f.false) c.header-h.ensures c.mark_either-2.ensures
