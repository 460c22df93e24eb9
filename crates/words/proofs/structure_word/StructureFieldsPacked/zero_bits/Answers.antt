-- src/structure_word.rt, zero_bits: result ≡ zero_sum kind.parts w
use native.Mathlib.Nat.{add-zero, div-one}
use Rattle.words.specs.Words.{structure}
use Rattle.words.proofs.structure_word.StructureFieldsPacked.zero_bits.Goals as goal

pub returns : goal.returns
unfolding structure
returns c = simp (add-zero, div-one)
