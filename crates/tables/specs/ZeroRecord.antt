-- A record of 40 zero words: its partition has nothing.
use Rattle.std.specs.Prelude.{Bool, ◌&&◌, List, ℕ, eqb}
use Rattle.loops.specs.Loops.{all}
use Rattle.tables.specs.View.{record_word, blank_word_at}

-- the first n words of p are zero
unfoldable pub zero_to : ℕ → List ℕ → ℕ → Bool
zero_to n l p = all n (λ o. eqb (record_word l p o) 0)

-- the two that hold nothing are
unfoldable pub zero_blanks : List ℕ → ℕ → Bool
zero_blanks l p = eqb (blank_word_at l p 0) 0 && eqb (blank_word_at l p 1) 0

-- all 40 are
abbrev pub zero_record : List ℕ → ℕ → Bool
zero_record l p = zero_to 40 l p
