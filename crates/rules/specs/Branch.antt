-- The branch of a partition: who its members are, whatever the table.
use Rattle.std.specs.Prelude.{◌≡◌, ℕ}

-- q is p, or the parent of q is in the branch of p; the root has no parent
pub data Under (up : ℕ → ℕ) (p : ℕ) : ℕ → Type 0 where
  itself : {q : ℕ} → q ≡ p → Under up p q
  below : {q : ℕ} → (q ≡ 0 → ⊥) → Under up p (up q) → Under up p q
