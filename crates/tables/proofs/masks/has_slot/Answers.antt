-- src/masks.rt, has_slot: result ≡ names mask i.0
use mathlib.Core.Path.{refl}
use Rattle.loops.specs.Loops.{names}
use Rattle.tables.proofs.masks.has_slot.Goals as goal

pub returns : goal.returns
unfolding names
returns c = refl
