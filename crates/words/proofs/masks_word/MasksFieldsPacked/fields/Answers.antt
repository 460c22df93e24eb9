-- src/masks_word.rt, fields: result ≡ fields_in kind w
use mathlib.Core.Path.{refl}
use Rattle.words.specs.Words.{masks}
use Rattle.words.proofs.masks_word.MasksFieldsPacked.fields.Goals as goal

pub returns : goal.returns
unfolding masks
returns c = refl
