-- src/lines_word.rt, fields: result ≡ fields_in kind w
use mathlib.Core.Path.{refl}
use Rattle.words.specs.Words.{lines}
use Rattle.words.proofs.lines_word.LinesFieldsPacked.fields.Goals as goal

pub returns : goal.returns
unfolding lines
returns c = refl
