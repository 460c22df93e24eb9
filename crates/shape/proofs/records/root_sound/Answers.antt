-- src/records.rt, root_sound: result ≡ s2_root (view t.now).k p.0
use mathlib.Core.Path.{refl}
use borrow.Author.Tests.{not-true, not-false}
use Rattle.tables.specs.View.{header_area}
use Rattle.sound.specs.Clauses.{has, s2_root}
use Rattle.shape.proofs.records.root_sound.Goals as goal

pub returns-then-not-h : goal.returns-then-not-h
unfolding has s2_root header_area
returns-then-not-h c = let h = c.header-h in rw (h.ensures.area, not-true h.result.present c.if-not-h.true) refl

pub returns-then-not-is_nowhere : goal.returns-then-not-is_nowhere
unfolding has s2_root header_area
returns-then-not-is_nowhere c =
    let h = c.header-h in
    let n = c.is_nowhere in
    rw (h.ensures.area, not-false h.result.present c.if-not-h.false, ← n.ensures, c.if-not-is_nowhere.true) refl

pub returns : goal.returns
unfolding has s2_root header_area
returns c =
    let h = c.header-h in
    let n = c.is_nowhere in
    rw (h.ensures.area, not-false h.result.present c.if-not-h.false, ← n.ensures, c.if-not-is_nowhere.false, h.ensures.parent) refl
