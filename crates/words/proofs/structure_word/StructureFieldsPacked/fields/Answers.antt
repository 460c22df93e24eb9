-- src/structure_word.rt, fields: result ≡ fields_in kind w
use mathlib.Core.Path.{refl}
use Rattle.words.specs.Words.{structure}
use Rattle.words.proofs.structure_word.StructureFieldsPacked.fields.Goals as goal

pub returns : goal.returns
unfolding structure
returns c = refl
