-- The loop that reads every word tells that each is below 2^64.
use Rattle.std.specs.Prelude.{◌≡◌, refl, List, length, get_or, ℕ, ◌+◌, ◌^◌, ◌≤◌, ◌<◌, Bool, true, false, ltb}
use Rattle.std.proofs.Math.ListN.{get_or-eq_default}
use Rattle.std.proofs.Common.{arith, ltb-true, ltb-false}
use Rattle.std.proofs.Math.Decide.{ℕ_discrete}
use Rattle.tables.specs.Fitting.{Words}

-- the first n words were read
pub record Fitting (l : List ℕ) (n : ℕ) : Type 0 where
  pub within : n ≤ 641
  pub below : (k : ℕ) → k < n → get_or l k 0 < 2 ^ 64

pub fit_start : (l : List ℕ) → Fitting l 0
fit_start l = record { within = omega arith; below = λ k h. omega arith }

pub fit_on : {l : List ℕ} {n : ℕ} → Fitting l n → n < 641 → get_or l n 0 < 2 ^ 64 → Fitting l (n + 1)
fit_on {l} {n} f h w = record { within = omega arith; below = λ k b. go k b (ℕ_discrete k n) }
  where
    go : (k : ℕ) → k < n + 1 → Dec (k ≡ n) → get_or l k 0 < 2 ^ 64
    go k b (yes z) = rw z w
    go k b (no z) = f.below k (omega arith)

pub fit_end : {l : List ℕ} {n : ℕ} → Fitting l n → length l ≡ 641 → 641 ≤ n → Words l
fit_end {l} {n} f s h = record { small = λ k. go k (ltb k n) refl }
  where
    go : (k : ℕ) (b : Bool) → ltb k n ≡ b → get_or l k 0 < 2 ^ 64
    go k true u = f.below k (ltb-true k n u)
    go k false u = rw (get_or-eq_default l 0 {n = k} (omega (arith, ltb-false k n u))) (omega arith)
