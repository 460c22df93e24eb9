-- src/first_word.rt, zero_bits: result ≡ zero_sum kind.parts w
use native.Mathlib.Nat.{add-zero, div-one}
use Rattle.words.specs.Words.{first}
use Rattle.words.proofs.first_word.FirstFieldsPacked.zero_bits.Goals as goal

pub returns : goal.returns
unfolding first
returns c = simp (add-zero, div-one)
