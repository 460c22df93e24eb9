-- src/masks_word.rt, zero_bits: result ≡ zero_sum kind.parts w
use native.Mathlib.Nat.{add-zero, div-one}
use Rattle.words.specs.Words.{masks}
use Rattle.words.proofs.masks_word.MasksFieldsPacked.zero_bits.Goals as goal

pub returns : goal.returns
unfolding masks
returns c = simp (add-zero, div-one)
