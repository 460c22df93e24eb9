-- src/slot_word.rt, fields: result ≡ fields_in kind w
use native.Mathlib.Nat.{div-one}
use Rattle.words.specs.Words.{slot}
use Rattle.words.proofs.slot_word.SlotFieldsPacked.fields.Goals as goal

pub returns : goal.returns
unfolding slot
returns c = simp div-one
