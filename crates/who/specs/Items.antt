-- The text of an item of the machine form.
use Rattle.std.specs.Prelude.{List, [], ◌∷◌, ◌++◌, ℕ, decimal}

-- each number in decimal, after a space
unfoldable pub numbers_text : List ℕ → List ℕ
numbers_text [] = []
numbers_text (n ∷ ns) = 32 ∷ (decimal n ++ numbers_text ns)

-- a word, its numbers, and the end of the line
unfoldable pub item_line : List ℕ → List ℕ → List ℕ
item_line kind numbers = kind ++ (numbers_text numbers ++ (10 ∷ []))
