-- src/pair_word.rt, fields: result ≡ fields_in kind w
use native.Mathlib.Nat.{div-one}
use Rattle.pairs.specs.Word.{pair}
use Rattle.pairs.proofs.pair_word.PairFieldsPacked.fields.Goals as goal

pub returns : goal.returns
unfolding pair
returns c = simp div-one
