-- src/regions_word.rt, zero_bits: result ≡ zero_sum kind.parts w
use native.Mathlib.Nat.{add-zero}
use Rattle.words.specs.Words.{regions}
use Rattle.words.proofs.regions_word.RegionsFieldsPacked.zero_bits.Goals as goal

pub returns : goal.returns
unfolding regions
returns c = simp add-zero
