-- The table as it is handed over and back: 5,128 bytes, each of its 641 words most significant byte first.
use Rattle.std.specs.Prelude.{List, [], ◌∷◌, ℕ, ◌+◌, ◌*◌, ◌/◌, ◌%◌, get_or, set}
use Rattle.loops.specs.Loops.{carried, tab}
use Rattle.words.specs.Parts.{Part, bits, pack_parts, unpack}

-- the parts of a word: eight bytes, most significant first
abbrev pub octets : List Part
octets = bits 8 ∷ bits 8 ∷ bits 8 ∷ bits 8 ∷ bits 8 ∷ bits 8 ∷ bits 8 ∷ bits 8 ∷ []

-- the word in the eight bytes of b from byte i on
abbrev pub word_from : List ℕ → ℕ → ℕ
word_from b i = pack_parts octets (tab 8 (λ j. get_or b (i + j) 0))

-- word k of the bytes b, from their bytes 8k to 8k + 7
unfoldable pub word_at : List ℕ → ℕ → ℕ
word_at b k = word_from b (8 * k)

-- byte j of the word w
unfoldable pub byte_at : ℕ → ℕ → ℕ
byte_at w j = get_or (unpack octets w) j 0

-- byte i of the table l, from its word i / 8
abbrev pub byte_of : List ℕ → ℕ → ℕ
byte_of l i = byte_at (get_or l (i / 8) 0) (i % 8)

-- the table that 5,128 bytes are
unfoldable pub words_of : List ℕ → List ℕ
words_of b = tab 641 (word_at b)

-- the bytes that a table is
unfoldable pub bytes_of : List ℕ → List ℕ
bytes_of l = tab 5128 (byte_of l)

-- the bytes b with w put from byte i on, one byte after the other
abbrev pub put_word : List ℕ → ℕ → ℕ → List ℕ
put_word b i w = carried (λ j s. set s (i + j) (byte_at w j)) b 8

-- byte n of the 320 of partition p
unfoldable pub record_byte : List ℕ → ℕ → ℕ → ℕ
record_byte b p n = get_or b (8 + 320 * p + n) 0
