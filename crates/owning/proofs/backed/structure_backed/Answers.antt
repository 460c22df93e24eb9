-- src/backed.rt, structure_backed: result ≡ s8_backed (view t.now).k p.0 j
use mathlib.Core.Path.{sym, ◌∙◌}
use borrow.Author.Tests.{not-true, not-false}
use Rattle.owning.specs.Laws.Backed.{backed_rooted, backed_structure_absent, backed_structure_own, backed_structure_parent}
use Rattle.owning.proofs.backed.structure_backed.Goals as goal

pub returns-then-is_rooted : goal.returns-then-is_rooted
returns-then-is_rooted c = backed_rooted _ _ _ (sym c.is_rooted.ensures ∙ c.if-is_rooted.true)

pub returns-then-not-f : goal.returns-then-not-f
returns-then-not-f c =
    let f = c.structure-f in
    backed_structure_absent _ c.requires.1 f.ensures (sym c.is_rooted.ensures ∙ c.if-is_rooted.false) (not-true f.result.present c.if-not-f.true)

pub returns-then-has_equal : goal.returns-then-has_equal
returns-then-has_equal c =
    let f = c.structure-f in
    backed_structure_own _ c.requires.1 f.ensures (sym c.is_rooted.ensures ∙ c.if-is_rooted.false) (not-false f.result.present c.if-not-f.false) c.has_equal.ensures c.if-has_equal.true

pub returns : goal.returns
returns c =
    let f = c.structure-f in
    backed_structure_parent _ c.requires.1 f.ensures (sym c.is_rooted.ensures ∙ c.if-is_rooted.false) (not-false f.result.present c.if-not-f.false) c.has_equal.ensures c.if-has_equal.false c.header-h.ensures c.has_equal-2.ensures
