-- src/first_word.rt, fields: result ≡ fields_in kind w
use mathlib.Core.Path.{refl}
use Rattle.words.specs.Words.{first}
use Rattle.words.proofs.first_word.FirstFieldsPacked.fields.Goals as goal

pub returns : goal.returns
unfolding first
returns c = refl
