-- src/regions_word.rt, no_zero_bit: result ≡ zeroed regions w
use mathlib.Core.Bool.{and-true}
use Rattle.words.specs.Words.{regions}
use Rattle.words.proofs.regions_word.no_zero_bit.Goals as goal

pub returns : goal.returns
unfolding regions
returns c = simp and-true
