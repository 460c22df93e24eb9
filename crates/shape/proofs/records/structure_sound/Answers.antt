-- src/records.rt, structure_sound: result ≡ structure_test t.now (view t.now).k p.0 j
use mathlib.Core.Path.{refl, ap}
use mathlib.Core.Bool.{not, and-true}
use Rattle.tables.specs.View.{structure_area}
use Rattle.sound.specs.Clauses.{when, s4_area, s4_absent}
use Rattle.shape.specs.Records.{area_test, structure_test}
use Rattle.shape.proofs.records.structure_sound.Goals as goal

pub returns-then-not-structure_bits : goal.returns-then-not-structure_bits
unfolding structure_area when s4_area s4_absent area_test structure_test
returns-then-not-structure_bits c = let b = c.structure_bits in rw (← b.ensures, c.if-not-structure_bits.true) refl

pub returns-then-s : goal.returns-then-s
unfolding structure_area when s4_area s4_absent area_test structure_test
returns-then-s c =
    let b = c.structure_bits in
    rw (← b.ensures, c.if-not-structure_bits.false, c.structure-s.ensures.area, c.if-s.true, and-true)
    c.area_sound.ensures

pub returns-then-not-structure_word : goal.returns-then-not-structure_word
unfolding structure_area when s4_area s4_absent area_test structure_test
returns-then-not-structure_word c =
    let b = c.structure_bits in
    let z = c.structure_word in
    rw (← b.ensures, c.if-not-structure_bits.false, c.structure-s.ensures.area, c.if-s.false, ← z.ensures, c.if-not-structure_word.true) refl

pub returns : goal.returns
unfolding structure_area when s4_area s4_absent area_test structure_test
returns c =
    let b = c.structure_bits in
    let z = c.structure_word in
    rw (← b.ensures, c.if-not-structure_bits.false, c.structure-s.ensures.area, c.if-s.false, ← z.ensures, c.if-not-structure_word.false)
    (ap not c.is_rooted.ensures)
