-- src/regions_word.rt, fields: result ≡ fields_in kind w
use native.Mathlib.Nat.{div-one}
use Rattle.words.specs.Words.{regions}
use Rattle.words.proofs.regions_word.RegionsFieldsPacked.fields.Goals as goal

pub returns : goal.returns
unfolding regions
returns c = simp div-one
