-- src/call_word.rt, zero_bits: result ≡ zero_sum kind.parts w
use native.Mathlib.Nat.{add-zero, div-one}
use Rattle.words.specs.Words.{call}
use Rattle.words.proofs.call_word.CallFieldsPacked.zero_bits.Goals as goal

pub returns : goal.returns
unfolding call
returns c = simp (add-zero, div-one)
