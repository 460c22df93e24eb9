-- The pieces of a block cover it exactly, and each begins where the one before ended.
use Rattle.std.specs.Prelude.{◌≡◌, refl, List, ◌∷◌, ℕ, zero, suc, ◌+◌, ◌^◌, ◌≤◌, ◌<◌, length}
use Rattle.std.proofs.Math.Decide.{dec_lt}
use Rattle.std.proofs.Common.{arith}
use Rattle.shapes.specs.Pieces.{Piece, piece}
use Rattle.shapes.specs.Fewest.{OfShape, InPiece, nth_piece, Covers, Joined}
use Rattle.shapes.proofs.Laws.Widest.{Widest}
use Rattle.shapes.proofs.Laws.Greedy.{Greedy, ended, next}

-- what covers the lines after the first piece covers, with it, all
module _ {b s j : ℕ} {ps : List Piece} (w : Widest s b j) (c : Covers (s + 2 ^ j) b ps) where
  abbrev all : List Piece
  all = piece s (2 ^ j) ∷ ps

  shaped : (i : ℕ) → i < length all → OfShape (nth_piece all i)
  shaped zero h = record { power = j; lines = refl; times = w.fits.times; start = w.fits.multiple }
  shaped (suc i) h = c.shaped i (omega arith)

  low : (i : ℕ) → i < length all → s ≤ (nth_piece all i).start
  low zero h = omega arith
  low (suc i) h = omega (arith, c.low i (omega arith))

  high : (i : ℕ) → i < length all → (nth_piece all i).start + (nth_piece all i).lines ≤ b
  high zero h = w.fits.within
  high (suc i) h = c.high i (omega arith)

  every : (l : ℕ) → s ≤ l → l < b → Dec (l < s + 2 ^ j) → (i : ℕ) × (i < length all) × InPiece l (nth_piece all i)
  every l h g (yes d) = (0, omega arith, record { from = h; to = d })
  every l h g (no d) = let (i, x, u) = c.every l (omega arith) g in (suc i, omega arith, u)

  covers_more : Covers s b all
  covers_more = record { shaped = shaped; low = low; high = high; every = λ l h g. every l h g (dec_lt l (s + 2 ^ j)) }

pub greedy_covers : {b s : ℕ} {ps : List Piece} → Greedy b s ps → Covers s b ps
greedy_covers (ended z) = record {
  shaped = λ i h. absurd (omega arith);
  low = λ i h. absurd (omega arith);
  high = λ i h. absurd (omega arith);
  every = λ l h g. absurd (omega arith);
}
greedy_covers (next w g) = covers_more w (greedy_covers g)

-- where pieces begin, unless there are none
first : {b s : ℕ} {ps : List Piece} → Greedy b s ps → 0 < length ps → s ≡ (nth_piece ps 0).start
first (ended z) h = absurd (omega arith)
first (next w g) h = refl

pub greedy_joined : {b s : ℕ} {ps : List Piece} → Greedy b s ps → Joined ps
greedy_joined (ended z) = record { next = λ i h. absurd (omega arith) }
greedy_joined (next {s} {j} {ps} w g) = record { next = go (greedy_joined g) }
  where
    go : Joined ps → (i : ℕ) → suc i < length (piece s (2 ^ j) ∷ ps) → (nth_piece (piece s (2 ^ j) ∷ ps) i).start + (nth_piece (piece s (2 ^ j) ∷ ps) i).lines ≡ (nth_piece (piece s (2 ^ j) ∷ ps) (suc i)).start
    go r zero h = first g (omega arith)
    go r (suc i) h = r.next i (omega arith)
