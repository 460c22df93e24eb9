-- src/mark_word.rt, fields: result ≡ fields_in kind w
use native.Mathlib.Nat.{div-one}
use Rattle.words.specs.Words.{mark}
use Rattle.words.proofs.mark_word.MarkFieldsPacked.fields.Goals as goal

pub returns : goal.returns
unfolding mark
returns c = simp div-one
