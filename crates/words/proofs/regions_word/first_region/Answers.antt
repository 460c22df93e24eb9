-- src/regions_word.rt, first_region: result ≡ (fields_in regions w).region0
use mathlib.Core.Path.{refl}
use Rattle.words.specs.Words.{regions}
use Rattle.words.proofs.regions_word.first_region.Goals as goal

pub returns : goal.returns
unfolding regions
returns c = refl
