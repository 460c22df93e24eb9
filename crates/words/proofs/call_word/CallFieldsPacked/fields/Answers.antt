-- src/call_word.rt, fields: result ≡ fields_in kind w
use mathlib.Core.Path.{refl}
use Rattle.words.specs.Words.{call}
use Rattle.words.proofs.call_word.CallFieldsPacked.fields.Goals as goal

pub returns : goal.returns
unfolding call
returns c = refl
