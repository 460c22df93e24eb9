-- What a list of calls makes of the words of a table, and the calls that only read. The theorems over them are those of proofs/Whole.
use Rattle.std.specs.Prelude.{◌≡◌, List, [], ◌∷◌, ◌⊎◌, ℕ}
use Rattle.words.specs.declared.call_word.CallFields.{CallFields}
use Rattle.shapes.specs.declared.Board.{Board}
use Rattle.rules.specs.Rules.{call_on, words_after}

-- services 11 and 12, read region and find
abbrev pub Reads : CallFields → Type 0
Reads f = (f.service ≡ 11) ⊎ (f.service ≡ 12)

-- the words after the calls of these words, in order
unfoldable pub after_all : Board → List ℕ → List ℕ → List ℕ
after_all b l [] = l
after_all b l (w ∷ ws) = after_all b (words_after l (call_on b l w)) ws
