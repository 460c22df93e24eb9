-- The pigeonhole: a way up that stays among few numbers is short.
use Rattle.std.specs.Prelude.{◌≡◌, refl, Bool, true, ℕ, suc, ◌+◌, ◌≤◌, ◌<◌}
use Rattle.std.proofs.Common.{subst, ◌∙◌, arith}
use Rattle.loops.specs.Loops.{count, Reaches}
use Rattle.loops.specs.Laws.Count.{count_le, without, without_other, count_without}
use Rattle.loops.specs.Laws.Climb.{Steps, no_step, one_step, steps_one, steps→reaches, reaches→steps, reaches_more}

-- who is fewer steps away is another
differ : {up : ℕ → ℕ} {m n p q : ℕ} → Steps up m p → Steps up n q → n < m → q ≡ p → ⊥
differ {up} {m} {n} s t l e = let z : n ≡ m = steps_one (subst (Steps up n) e t) s in omega arith

-- P holds of all on a way up.
module _ {up : ℕ → ℕ} (P : ℕ → Type 0) (on : (p : ℕ) → P p → P (up p)) where
  -- There are fewer steps than numbers below n that f holds of, if it holds of all on the way.
  steps_few : (n : ℕ) (f : ℕ → Bool) {m p : ℕ} → P p → Steps up m p
      → ((q j : ℕ) → P q → Steps up j q → j ≤ m → (q < n) × (f q ≡ true)) → m < count n f
  steps_few n f u (no_step {p} z) h =
      let (b, q) = h p 0 u (no_step z) (omega arith) in
      omega (arith, count_without f p n b q)
  steps_few n f u (one_step {n = m} {p} z s) h =
      let (b, q) = h p (suc m) u (one_step z s) (omega arith) in
      omega (arith, count_without f p n b q, steps_few n (without f p) (on p u) s others)
    where
      others : (q j : ℕ) → P q → Steps up j q → j ≤ m → (q < n) × (without f p q ≡ true)
      others q j v t l =
          let (b, y) = h q j v t (omega arith) in
          (b, without_other f p q (differ (one_step z s) t (omega arith)) ∙ y)

  -- Among the numbers below n + 1, whoever reaches 0 does so in n steps.
  pub climb_within : (n : ℕ) → ((p : ℕ) → P p → p < n + 1) → {m p : ℕ} → P p → Reaches up m p → Reaches up n p
  climb_within n small u r =
      let (j, l, s) = reaches→steps r in
      let b = steps_few (n + 1) (λ k. true) u s (λ q k v t c. (small q v, refl)) in
      reaches_more (omega (arith, count_le (n + 1) (λ k. true))) (steps→reaches s)

  -- Among the numbers below n + 2 without x, too.
  pub climb_less : (n x : ℕ) → x < n + 2 → ((p : ℕ) → P p → (p < n + 2) × (p ≡ x → ⊥)) → {m p : ℕ} → P p → Reaches up m p → Reaches up n p
  climb_less n x h small u r =
      let (j, l, s) = reaches→steps r in
      let b = steps_few (n + 2) (without (λ k. true) x) u s (λ q k v t c. ((small q v).0, without_other (λ k. true) x q (small q v).1)) in
      reaches_more (omega (arith, count_without (λ k. true) x (n + 2) h refl, count_le (n + 2) (λ k. true))) (steps→reaches s)
