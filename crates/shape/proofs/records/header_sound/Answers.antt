-- src/records.rt, header_sound: result ≡ header_test t.now (view t.now).k p.0
use mathlib.Core.Path.{refl}
use borrow.Author.Tests.{not-true, not-false}
use Rattle.tables.specs.View.{header_area}
use Rattle.sound.specs.Clauses.{when, s4_area}
use Rattle.shape.specs.Records.{area_test, header_test}
use Rattle.shape.proofs.records.header_sound.Goals as goal

pub returns-then-not-header_bits : goal.returns-then-not-header_bits
unfolding header_area when s4_area area_test header_test
returns-then-not-header_bits c = let b = c.header_bits in rw (← b.ensures, c.if-not-header_bits.true) refl

pub returns-then-not-h : goal.returns-then-not-h
unfolding header_area when s4_area area_test header_test
returns-then-not-h c =
    let h = c.header-h in
    let b = c.header_bits in
    rw (← b.ensures, c.if-not-header_bits.false, h.ensures.area, not-true h.result.present c.if-not-h.true) refl

pub returns : goal.returns
unfolding header_area when s4_area area_test header_test
returns c =
    let h = c.header-h in
    let b = c.header_bits in
    rw (← b.ensures, c.if-not-header_bits.false, h.ensures.area, not-false h.result.present c.if-not-h.false)
    c.area_sound.ensures
