-- src/read.rt, regions_word: result ≡ regions_word_at t.now p.0
use mathlib.Core.Path.{refl}
use Rattle.tables.specs.View.{regions_word_at}
use Rattle.tables.proofs.read.regions_word.Goals as goal

pub returns : goal.returns
unfolding regions_word_at
returns c = refl
