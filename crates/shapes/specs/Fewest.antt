-- 02 on the pieces of a loaded entry: "the fewest such pieces that cover it exactly", in rising order, and none fewer do. The theorem is `shapes` (`Laws/Shapes.antt`).
use Rattle.std.specs.Prelude.{◌≡◌, List, [], ◌∷◌, ℕ, suc, ◌+◌, ◌-◌, ◌*◌, ◌^◌, ◌≤◌, ◌<◌, length, get_or}
use Rattle.shapes.specs.declared.Board.TheVariants.{V7, V8}
use Rattle.shapes.specs.Pieces.{Piece, piece, pieces_for}

-- "a power-of-two size of 32 bytes or more and a base aligned to the size": a line is 32 bytes
pub record OfShape (p : Piece) : Type 0 where
  pub power : ℕ
  pub lines : p.lines ≡ 2 ^ power
  pub times : ℕ
  pub start : p.start ≡ times * 2 ^ power

-- line l lies in the piece
pub record InPiece (l : ℕ) (p : Piece) : Type 0 where
  pub from : p.start ≤ l
  pub to : l < p.start + p.lines

-- the i-th piece of a list
abbrev pub nth_piece : List Piece → ℕ → Piece
nth_piece ps i = get_or ps i (piece 0 0)

-- such pieces that cover a to b exactly: none has a line outside, and each line is in one, or in several
pub record Covers (a b : ℕ) (ps : List Piece) : Type 0 where
  pub shaped : (i : ℕ) → i < length ps → OfShape (nth_piece ps i)
  pub low : (i : ℕ) → i < length ps → a ≤ (nth_piece ps i).start
  pub high : (i : ℕ) → i < length ps → (nth_piece ps i).start + (nth_piece ps i).lines ≤ b
  pub every : (l : ℕ) → a ≤ l → l < b → (i : ℕ) × (i < length ps) × InPiece l (nth_piece ps i)

-- in rising order
pub record PiecesRising (ps : List Piece) : Type 0 where
  pub next : (i : ℕ) → suc i < length ps → (nth_piece ps i).start ≤ (nth_piece ps (suc i)).start

-- each begins where the one before ended
pub record Joined (ps : List Piece) : Type 0 where
  pub next : (i : ℕ) → suc i < length ps → (nth_piece ps i).start + (nth_piece ps i).lines ≡ (nth_piece ps (suc i)).start

-- the fewest pieces that cover a to b exactly, in rising order: no cover has fewer, and none but this that has as few is in rising order
pub record Fewest (a b : ℕ) (ps : List Piece) : Type 0 where
  pub covers : Covers a b ps
  pub joined : Joined ps
  pub none_fewer : (cs : List Piece) → Covers a b cs → length ps ≤ length cs
  pub only : (cs : List Piece) → Covers a b cs → PiecesRising cs → length cs ≡ length ps → cs ≡ ps

-- what is proved of the pieces of every block
pub record Shapes : Type 0 where
  pub fewest : (a b : ℕ) → a ≤ b → b < 2 ^ 27 → Fewest a b (pieces_for V7 a b)
  pub few : (a b : ℕ) → b < 2 ^ 27 → length (pieces_for V7 a b) ≤ 52
  -- .. which one block needs
  pub most : length (pieces_for V7 1 134217727) ≡ 52
  -- "288 to 512 needs three, of 32, 64 and 128 lines"
  pub printed : pieces_for V7 288 512 ≡ piece 288 32 ∷ piece 320 64 ∷ piece 384 128 ∷ []
  -- on ARMv8-M "each loaded entry is one region"
  pub one : (a b : ℕ) → pieces_for V8 a b ≡ piece a (b - a) ∷ []
