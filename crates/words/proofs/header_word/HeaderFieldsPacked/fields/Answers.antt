-- src/header_word.rt, fields: result ≡ fields_in kind w
use mathlib.Core.Path.{refl}
use Rattle.words.specs.Words.{header}
use Rattle.words.proofs.header_word.HeaderFieldsPacked.fields.Goals as goal

pub returns : goal.returns
unfolding header
returns c = refl
