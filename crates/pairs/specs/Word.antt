-- The two registers as one word of 64 bits, a kind of word like those of `words`: the parts, most significant first, and the struct that has its fields.
use Rattle.std.specs.Prelude.{[], ◌∷◌, get_or, eqb}
use Rattle.loops.specs.Loops.{bit_of}
use Rattle.words.specs.Parts.{bits, zeros}
use Rattle.words.specs.Kind.{Kind}
use Rattle.pairs.specs.declared.pair_word.PairFields.{PairFields}

-- RBAR: base 27, shareability 2 = 0, access 2, execute-never 1; RLAR: limit 27, reserved 1 = 0, attribute 3 = 0, enable 1
unfoldable pub pair : Kind PairFields
pair = record {
  parts = bits 27 ∷ zeros 2 ∷ bits 2 ∷ bits 1 ∷ bits 27 ∷ zeros 4 ∷ bits 1 ∷ [];
  of = λ ns. record { base = record { 0 = get_or ns 0 0 }; access = get_or ns 1 0; never = eqb (get_or ns 2 0) 1; limit = record { 0 = get_or ns 3 0 }; enabled = eqb (get_or ns 4 0) 1 };
  list = λ f. f.base.0 ∷ f.access ∷ bit_of f.never ∷ f.limit.0 ∷ bit_of f.enabled ∷ [];
}
