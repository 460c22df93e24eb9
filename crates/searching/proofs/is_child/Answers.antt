-- src/lib.rt, is_child: result ≡ child (view t.now).k p.0 c.0
use mathlib.Core.Path.{refl, ◌∙◌}
use borrow.Author.Tests.{eq-eqb, ne_eqb}
use Rattle.tables.specs.Search.{present, child}
use Rattle.tables.specs.Laws.Search.{header_some}
use Rattle.searching.proofs.is_child.Goals as goal

pub returns-then-not-h : goal.returns-then-not-h
unfolding present child
returns-then-not-h c = let h = c.header-h in rw (h.ensures.area, header_some, c.if-not-h.true) refl

pub returns-then-c-eq0 : goal.returns-then-c-eq0
unfolding present child
returns-then-c-eq0 c = let h = c.header-h in rw (h.ensures.area, header_some, c.if-not-h.false, eq-eqb _ 0 c.if-c-eq0.true) refl

pub returns : goal.returns
unfolding present child
returns c =
    let h = c.header-h in
    c.eq.ensures ∙ rw (h.ensures.area, header_some, c.if-not-h.false, ne_eqb _ 0 c.if-c-eq0.false, h.ensures.parent) refl
