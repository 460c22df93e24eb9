-- src/slot_word.rt, zero_bits: result ≡ zero_sum kind.parts w
use mathlib.Core.Path.{refl}
use Rattle.words.specs.Words.{slot}
use Rattle.words.proofs.slot_word.SlotFieldsPacked.zero_bits.Goals as goal

pub returns : goal.returns
unfolding slot
returns c = refl
