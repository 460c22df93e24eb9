-- What the number says that C gets for the verdict on an image.
use Rattle.std.specs.Prelude.{◌≡◌, List, ◌↔◌, ℕ, ◌/◌, ◌%◌, ◌^◌, ◌≤◌, length}
use Rattle.shapes.specs.declared.Board.{Board}
use Rattle.memory.specs.Bytes.{words_of}
use Rattle.sound.specs.Sound.{Sound}
use Rattle.verdict.specs.Verdict.{Names}

-- The result r of a check of these bytes: refusal 1 exactly for another length; 0 exactly for a sound table; else clause and partition, the
-- first value by 16, are exactly those that are named.
pub record Says (board : Board) (b : List ℕ) (r : ℕ) : Type 0 where
  pub refused : (r ≡ 1) ↔ (length b ≡ 5128 → ⊥)
  pub sound : (r ≡ 0) ↔ ((length b ≡ 5128) × Sound board (words_of b))
  pub names : (n p : ℕ) → ((1 ≤ n) × (r / 2 ^ 32 / 16 ≡ n) × (r / 2 ^ 32 % 16 ≡ p)) ↔ ((length b ≡ 5128) × Names board (words_of b) n p)
