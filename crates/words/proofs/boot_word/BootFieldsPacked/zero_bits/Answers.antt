-- src/boot_word.rt, zero_bits: result ≡ zero_sum kind.parts w
use native.Mathlib.Nat.{add-zero, div-one}
use Rattle.words.specs.Words.{boot}
use Rattle.words.proofs.boot_word.BootFieldsPacked.zero_bits.Goals as goal

pub returns : goal.returns
unfolding boot
returns c = simp (add-zero, div-one)
