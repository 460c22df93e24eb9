-- src/mark_word.rt, zero_bits: result ≡ zero_sum kind.parts w
use native.Mathlib.Omega.{arith}
use Rattle.words.specs.Words.{mark}
use Rattle.words.proofs.mark_word.MarkFieldsPacked.zero_bits.Goals as goal

pub returns : goal.returns
unfolding mark
returns c = omega arith
