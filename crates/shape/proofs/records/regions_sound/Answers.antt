-- src/records.rt, regions_sound: result ≡ s3_regions t.now p.0
use mathlib.Core.Path.{refl}
use Rattle.sound.specs.Clauses.{s3_regions}
use Rattle.shape.proofs.records.regions_sound.Goals as goal

pub returns-then-not-regions_bits : goal.returns-then-not-regions_bits
unfolding s3_regions
returns-then-not-regions_bits c = let b = c.regions_bits in rw (← b.ensures, c.if-not-regions_bits.true) refl

pub returns : goal.returns
unfolding s3_regions
returns c =
    let b = c.regions_bits in
    rw (← b.ensures, c.if-not-regions_bits.false, ← c.regions_word.ensures)
    c.all_blank.ensures
