-- src/records.rt, family_sound: result ≡ s2 t.now (view t.now).k p.0
use mathlib.Core.Path.{refl}
use mathlib.Core.Bool.{and-false}
use borrow.Author.Tests.{not-true, not-false, eq-eqb, ne_eqb}
use Rattle.tables.specs.View.{header_area}
use Rattle.tables.specs.Search.{present}
use Rattle.sound.specs.Clauses.{when, s2_other, s2}
use Rattle.shape.proofs.records.family_sound.Goals as goal

pub returns-then-p-eq0 : goal.returns-then-p-eq0
unfolding present when s2_other s2 header_area
returns-then-p-eq0 c = rw (eq-eqb _ 0 c.if-p-eq0.true) c.root_sound.ensures

pub returns-then-not-h : goal.returns-then-not-h
unfolding present when s2_other s2 header_area
returns-then-not-h c =
    let h = c.header-h in
    rw (ne_eqb _ 0 c.if-p-eq0.false, h.ensures.area, not-true h.result.present c.if-not-h.true) c.zero_record.ensures

pub returns-then-not-is_present : goal.returns-then-not-is_present
unfolding present when s2_other s2 header_area
returns-then-not-is_present c =
    let h = c.header-h in
    let u = c.is_present in
    rw (ne_eqb _ 0 c.if-p-eq0.false, h.ensures.area, not-false h.result.present c.if-not-h.false, h.ensures.parent, ← u.ensures, c.if-not-is_present.true) refl

pub returns-then-is_nowhere : goal.returns-then-is_nowhere
unfolding present when s2_other s2 header_area
returns-then-is_nowhere c =
    let h = c.header-h in
    rw (ne_eqb _ 0 c.if-p-eq0.false, h.ensures.area, not-false h.result.present c.if-not-h.false, ← c.is_nowhere.ensures, c.if-is_nowhere.true, and-false) refl

pub returns : goal.returns
unfolding present when s2_other s2 header_area
returns c =
    let h = c.header-h in
    let u = c.is_present in
    rw (ne_eqb _ 0 c.if-p-eq0.false, h.ensures.area, not-false h.result.present c.if-not-h.false, h.ensures.parent, ← u.ensures, c.if-not-is_present.false, ← c.is_nowhere.ensures, c.if-is_nowhere.false)
    c.climb.ensures.rooted
