-- The pieces of a block. On ARMv7-M a region has a power-of-two size of 32 bytes, which is a line, or more, and a base aligned to the size.
use Rattle.std.specs.Prelude.{◌≡◌, Bool, cond, ◌&&◌, List, [], ◌∷◌, ◌++◌, map, ℕ, zero, suc, ◌+◌, ◌-◌, ◌*◌, ◌%◌, ◌^◌, ◌≤◌, ◌<◌, eqb, leb, ltb, length, drop}
use Rattle.std.specs.Int.Bits.{bit_or}
use Rattle.std.specs.Int.Count.{count_trailing_zeros}
use Rattle.shapes.specs.declared.Board.{Board}
use Rattle.shapes.specs.declared.Board.TheVariants.{V7, V8}

-- a piece: its first line and its lines
pub record Piece : Type 0 where
  pub start : ℕ
  pub lines : ℕ

abbrev pub piece : ℕ → ℕ → Piece
piece start lines = record { start = start; lines = lines }

-- ── ARMv7-M ──
-- 2 ^ j lines from s on: s is a multiple of them, and they end by b
unfoldable pub fits : ℕ → ℕ → ℕ → Bool
fits s b j = eqb (s % 2 ^ j) 0 && leb (s + 2 ^ j) b

-- from j on, one more as long as that fits, at most n more
unfoldable pub grown : ℕ → ℕ → ℕ → ℕ → ℕ
grown zero j s b = j
grown (suc n) j s b = cond (fits s b (suc j)) (grown n (suc j) s b) j

-- the lines of the largest piece at s that ends by b
unfoldable pub widest : ℕ → ℕ → ℕ
widest s b = 2 ^ grown 27 0 s b

-- the pieces from s to b, at most n of them: the largest at s, and so on from its end
unfoldable pub pieces_in : ℕ → ℕ → ℕ → List Piece
pieces_in zero s b = []
pieces_in (suc n) s b = cond (ltb s b) (piece s (widest s b) ∷ pieces_in n (s + widest s b) b) []

-- the pieces of the block s to b, in rising order: no more than it has lines
unfoldable pub pieces : ℕ → ℕ → List Piece
pieces s b = pieces_in (b - s) s b

-- the zeros that a and b both end in
abbrev pub common_zeros : ℕ → ℕ → ℕ
common_zeros a b = count_trailing_zeros 32 (bit_or a b)

-- ── on either board ──
-- ARMv8-M has a base and a limit, and no power-of-two rule: a block is one region
abbrev pub pieces_for : Board → ℕ → ℕ → List Piece
pieces_for V7 s b = pieces s b
pieces_for V8 s b = piece s (b - s) ∷ []

-- ── what the listing lends ──
-- a piece as a word
abbrev pub piece_word : Piece → ℕ
piece_word p = p.start * 2 ^ 32 + p.lines

-- the first words are those of the pieces, the rest stay
abbrev pub piece_words : List Piece → List ℕ → List ℕ
piece_words ps list = map piece_word ps ++ drop (length ps) list

-- what the writer asks: a block, and room for its pieces
pub record CanList (board : Board) (s b : ℕ) (list : List ℕ) : Type 0 where
  pub block : s ≤ b
  pub small : b < 2 ^ 27
  pub room : length (pieces_for board s b) ≤ length list

-- .. and what it promises: their number, and every word of the list
pub record ShapesListed (ps : List Piece) (before : List ℕ) (r : ℕ) (after : List ℕ) : Type 0 where
  pub number : r ≡ length ps
  pub words : after ≡ piece_words ps before
