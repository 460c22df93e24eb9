-- src/regions.rt, with_region: result ≡ with_region f r x
use mathlib.Core.Path.{refl}
use Rattle.tables.proofs.regions.with_region.Goals as goal

pub returns : goal.returns
returns c = rw (← c.choose.ensures, ← c.choose-2.ensures, ← c.choose-3.ensures, ← c.choose-4.ensures, ← c.choose-5.ensures, ← c.choose-6.ensures, ← c.choose-7.ensures, ← c.choose-8.ensures) refl
