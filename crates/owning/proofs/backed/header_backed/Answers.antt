-- src/backed.rt, header_backed: result ≡ s8_backed (view t.now).k p.0 0
use mathlib.Core.Path.{sym, ◌∙◌}
use borrow.Author.Tests.{not-true, not-false}
use Rattle.owning.specs.Laws.Backed.{backed_rooted, backed_header_absent, backed_header_parent}
use Rattle.owning.proofs.backed.header_backed.Goals as goal

pub returns-then-is_rooted : goal.returns-then-is_rooted
returns-then-is_rooted c = backed_rooted _ _ _ (sym c.is_rooted.ensures ∙ c.if-is_rooted.true)

pub returns-then-not-h : goal.returns-then-not-h
returns-then-not-h c =
    let h = c.header-h in
    backed_header_absent h.ensures (sym c.is_rooted.ensures ∙ c.if-is_rooted.false) (not-true h.result.present c.if-not-h.true)

pub returns : goal.returns
returns c =
    let h = c.header-h in
    backed_header_parent h.ensures (sym c.is_rooted.ensures ∙ c.if-is_rooted.false) (not-false h.result.present c.if-not-h.false) c.has_equal.ensures
