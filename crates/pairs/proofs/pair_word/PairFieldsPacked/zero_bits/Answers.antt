-- src/pair_word.rt, zero_bits: result ≡ zero_sum kind.parts w
use native.Mathlib.Nat.{add-zero}
use Rattle.pairs.specs.Word.{pair}
use Rattle.pairs.proofs.pair_word.PairFieldsPacked.zero_bits.Goals as goal

pub returns : goal.returns
unfolding pair
returns c = simp add-zero
