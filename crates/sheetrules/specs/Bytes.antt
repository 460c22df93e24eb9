-- A sheet as C lends it: 256 bytes, each of its 32 words most significant byte first.
use Rattle.std.specs.Prelude.{Bool, cond, ◌&&◌, List, [], ℕ, ◌+◌, ◌*◌, eqb, length}
use Rattle.loops.specs.Loops.{tab}
use Rattle.memory.specs.Bytes.{word_at, byte_of, put_word}
use Rattle.tables.specs.State.{Table}
use Rattle.rules.specs.Rules.{Effect, done, refused}
use Rattle.sheetrules.specs.Sheet.{masks_word, lines_word, sheet_of}

-- the words that are handed over as bytes; another number of bytes is no sheet
unfoldable pub handed_sheet : List ℕ → List ℕ
handed_sheet b = cond (eqb (length b) 256) (tab 32 (word_at b)) []

-- the bytes that the words of a sheet are
unfoldable pub sheet_bytes : List ℕ → List ℕ
sheet_bytes s = tab 256 (byte_of s)

-- the bytes after a boot or a call: those of the sheet after it, or, refused, as they were
unfoldable pub sheet_bytes_after : List ℕ → Effect → List ℕ
sheet_bytes_after b (done v w t) = sheet_bytes (sheet_of t)
sheet_bytes_after b (refused why) = b

-- x and y are the words of p in the bytes b
unfoldable pub pair_is : List ℕ → ℕ → ℕ → ℕ → Bool
pair_is b p x y = eqb (word_at b (2 * p)) x && eqb (word_at b (2 * p + 1)) y

-- .. those of the table are
abbrev pub pair_matches : List ℕ → Table → ℕ → Bool
pair_matches b t p = pair_is b p (masks_word t p) (lines_word t p)

-- the bytes b with two words put from byte 16 p on
abbrev pub pair_put : List ℕ → ℕ → ℕ → ℕ → List ℕ
pair_put b p x y = put_word (put_word b (16 * p) x) (16 * p + 8) y
