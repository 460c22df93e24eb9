-- src/boot_word.rt, fields: result ≡ fields_in kind w
use mathlib.Core.Path.{refl}
use Rattle.words.specs.Words.{boot}
use Rattle.words.proofs.boot_word.BootFieldsPacked.fields.Goals as goal

pub returns : goal.returns
unfolding boot
returns c = refl
