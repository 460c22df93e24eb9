-- src/header_word.rt, zero_bits: result ≡ zero_sum kind.parts w
use native.Mathlib.Nat.{add-zero, div-one}
use Rattle.words.specs.Words.{header}
use Rattle.words.proofs.header_word.HeaderFieldsPacked.zero_bits.Goals as goal

pub returns : goal.returns
unfolding header
returns c = simp (add-zero, div-one)
