-- src/lines_word.rt, zero_bits: result ≡ zero_sum kind.parts w
use native.Mathlib.Nat.{add-zero, div-one}
use Rattle.words.specs.Words.{lines}
use Rattle.words.proofs.lines_word.LinesFieldsPacked.zero_bits.Goals as goal

pub returns : goal.returns
unfolding lines
returns c = simp (add-zero, div-one)
