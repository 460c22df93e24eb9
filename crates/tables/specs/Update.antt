-- A function with another value at one place.
use Rattle.std.specs.Prelude.{◌≡◌, ℕ}
use Rattle.std.proofs.Math.Decide.{ℕ_discrete}

unfoldable pub pick : {P A : Type 0} → Dec P → A → A → A
pick (yes _) a b = a
pick (no _) a b = b

-- ── of one number ──
unfoldable pub upd1 : {A : Type 0} → (ℕ → A) → ℕ → A → ℕ → A
upd1 f p a q = pick (ℕ_discrete q p) a (f q)

-- ── of two numbers ──
unfoldable pub both? : (p i q j : ℕ) → Dec ((q ≡ p) × (j ≡ i))
both? p i q j = go (ℕ_discrete q p) (ℕ_discrete j i)
  where
    go : Dec (q ≡ p) → Dec (j ≡ i) → Dec ((q ≡ p) × (j ≡ i))
    go (yes a) (yes b) = yes (a, b)
    go (yes a) (no b) = no (λ h. b h.1)
    go (no a) d = no (λ h. a h.0)

unfoldable pub upd : {A : Type 0} → (ℕ → ℕ → A) → ℕ → ℕ → A → ℕ → ℕ → A
upd f p i a q j = pick (both? p i q j) a (f q j)
