-- A mark's line and its holder, and the mark of the two.
use Rattle.std.specs.Prelude.{ℕ}
use Rattle.words.specs.Kind.{fields_in, word_of}
use Rattle.words.specs.Words.{mark}

-- ── marks ──
-- the line and the holder in a mark, and the mark of the two
abbrev pub line_in : ℕ → ℕ
line_in m = (fields_in mark m).line.0

abbrev pub holder_in : ℕ → ℕ
holder_in m = (fields_in mark m).holder.0

abbrev pub mark_for : ℕ → ℕ → ℕ
mark_for l p = word_of mark (record { line = record { 0 = l }; holder = record { 0 = p } })
