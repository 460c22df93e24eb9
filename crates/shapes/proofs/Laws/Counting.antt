-- The loop that counts the pieces by halving, zeros that both lines end in taken out at once.
use Rattle.std.specs.Prelude.{◌≡◌, ℕ, ◌+◌, ◌/◌, ◌%◌, ◌^◌, ◌≤◌, ◌<◌, length}
use Rattle.std.proofs.Common.{ap, arith}
use Rattle.shapes.specs.declared.Board.{Board}
use Rattle.shapes.specs.declared.Board.TheVariants.{V7}
use Rattle.shapes.specs.Pieces.{pieces, pieces_for}
use Rattle.shapes.proofs.Laws.Greedy.{pieces_none}
use Rattle.shapes.proofs.Laws.Halves.{pieces_half, pieces_few}
use Rattle.shapes.proofs.Laws.Zeros.{ZerosShifted}

-- n pieces of s to e are counted; those of a to b are not yet
pub record CountingPieces (s e a b n : ℕ) : Type 0 where
  pub small : b < 2 ^ 27
  pub left : length (pieces s e) ≡ n + length (pieces a b)
  pub few : n ≤ 52

pub pieces_count_start : {s e : ℕ} → e < 2 ^ 27 → CountingPieces s e s e 0
pieces_count_start h = record { small = h; left = omega arith; few = omega arith }

module _ {s e a b n : ℕ} (c : CountingPieces s e a b n) (small : e < 2 ^ 27) where
  -- z zeros are taken out, then the ends are counted and halved
  pub pieces_count_on : (z : ℕ) → ZerosShifted a b z → CountingPieces s e ((a / 2 ^ z + 1) / 2) (b / 2 ^ z / 2) (n + (a / 2 ^ z % 2 + b / 2 ^ z % 2))
  pieces_count_on z t =
      let low : b / 2 ^ z < 2 ^ 27 = omega (arith, c.small, t.small) in
      let half = pieces_half low t.less in
      record {
        small = omega arith;
        left = omega (arith, c.left, t.same, half);
        few = omega (arith, c.left, t.same, half, pieces_few s e small);
      }

  pub pieces_count_end : b ≤ a → n ≡ length (pieces s e)
  pieces_count_end h = omega (arith, c.left, ap length (pieces_none a b h))

-- so on ARMv7-M
pub pieces_counted : {board : Board} (s e : ℕ) {r : ℕ} → board ≡ V7 → e < 2 ^ 27 → r ≡ length (pieces s e) → (r ≡ length (pieces_for board s e)) × (r ≤ 52)
pieces_counted s e b small q = (rw b q, omega (arith, pieces_few s e small))
