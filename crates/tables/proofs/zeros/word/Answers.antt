-- src/zeros.rt, word: result ≡ record_word t.now p.0 o
use mathlib.Core.Path.{refl}
use Rattle.tables.specs.View.{record_word}
use Rattle.tables.proofs.zeros.word.Goals as goal

pub returns : goal.returns
unfolding record_word
returns c = refl
