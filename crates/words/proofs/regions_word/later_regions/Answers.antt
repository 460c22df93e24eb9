-- src/regions_word.rt, later_regions: result ≡ later_regions w
use mathlib.Core.Path.{refl}
use Rattle.words.specs.Later.{later_regions}
use Rattle.words.proofs.regions_word.later_regions.Goals as goal

pub returns : goal.returns
unfolding later_regions
returns c = refl
