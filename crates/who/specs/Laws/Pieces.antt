-- A sum of zeros but for one number.
use Rattle.std.specs.Prelude.{◌≡◌, refl, ℕ, zero, suc, ◌≤◌, ◌<◌}
use Rattle.std.proofs.Common.{arith}
use Rattle.std.proofs.Math.Decide.{ℕ_discrete}
use Rattle.loops.specs.Loops.{carried, sum}

-- a sum of zeros
sum_zero : (n : ℕ) (f : ℕ → ℕ) → ((k : ℕ) → k < n → f k ≡ 0) → sum n f ≡ 0
unfolding sum carried
sum_zero zero f h = refl
sum_zero (suc n) f h = omega (arith, sum_zero n f (λ k b. h k (omega arith)), h n (omega arith))

-- of zeros but for one
pub sum_only : (n : ℕ) (f : ℕ → ℕ) (x : ℕ) → ((k : ℕ) → (k ≡ x → ⊥) → f k ≡ 0) → sum n f ≤ f x
unfolding sum carried
sum_only zero f x h = omega arith
sum_only (suc n) f x h = go (ℕ_discrete n x) (sum_only n f x h)
  where
    go : Dec (n ≡ x) → sum n f ≤ f x → sum (suc n) f ≤ f x
    go (yes q) _ = rw (← q) (omega (arith, sum_zero n f (λ k b. h k (λ z. omega arith))))
    go (no q) y = omega (arith, h n q)
