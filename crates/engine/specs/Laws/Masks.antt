-- Masks that name children alone: their bits 1 to 15.
use Rattle.std.specs.Prelude.{◌≡◌, true, ℕ, zero, suc, ◌+◌, ◌*◌, ◌/◌, ◌%◌, ◌^◌, ◌≤◌, ◌<◌}
use Rattle.std.proofs.Common.{ap, sym, ◌∙◌, arith, pow_mono, shr-shr, eqb-true, eq-eqb}
use Rattle.std.proofs.Math.Decide.{ℕ_discrete, dec_lt}
use Rattle.std.proofs.Math.Pow.{high}
use Rattle.loops.specs.Loops.{bit, names}

-- with bit 0 and the bits from 16 on clear, who is named is 1 to 15
pub names_child : (w p : ℕ) → w % 2 ≡ 0 → w < 2 ^ 16 → names w p ≡ true → (1 ≤ p) × (p ≤ 15)
unfolding names
names_child w p even low q = go (ℕ_discrete p 0) (dec_lt p 16)
  where
    set : bit w p ≡ 1
    set = eqb-true (bit w p) 1 q

    go : Dec (p ≡ 0) → Dec (p < 16) → (1 ≤ p) × (p ≤ 15)
    go (yes z) _ = let e : w / 2 ^ 0 % 2 ^ 1 ≡ 1 = ap (λ (n : ℕ). bit w n) (sym z) ∙ set in absurd (omega arith)
    go (no n) (yes d) = (omega arith, omega arith)
    go (no n) (no d) =
        let m : 2 ^ 16 ≤ 2 ^ p = pow_mono {i = 16} {j = p} (omega arith) in
        let none : (0 * 2 ^ p + w) / 2 ^ p ≡ 0 = high 0 p (omega arith) in
        let e : 0 * 2 ^ p + w ≡ w = omega arith in
        let zero : bit w p ≡ 0 = ap (λ (x : ℕ). x % 2 ^ 1) (rw e at none) in
        absurd (omega (arith, set))

-- who is not named has no bit
unnamed : (w p : ℕ) → (names w p ≡ true → ⊥) → bit w p ≡ 0
unfolding names
unnamed w p f = go (ℕ_discrete (bit w p) 1)
  where
    go : Dec (bit w p ≡ 1) → bit w p ≡ 0
    go (yes e) = absurd (f (eq-eqb (bit w p) 1 e))
    go (no n) = omega arith

-- a number with no bit is 0
no_bit : (n h : ℕ) → h ≤ n → ((q : ℕ) → bit h q ≡ 0) → h ≡ 0
no_bit zero h c f = omega arith
no_bit (suc n) h c f =
    let half : h / 2 ^ 1 ≡ 0 = no_bit n (h / 2 ^ 1) (omega arith) (λ q. ap (λ (x : ℕ). x % 2 ^ 1) (shr-shr h 1 q) ∙ f (1 + q)) in
    let last : h / 2 ^ 0 % 2 ^ 1 ≡ 0 = f 0 in
    omega arith

module _ (w : ℕ) (each : (p : ℕ) → names w p ≡ true → (1 ≤ p) × (p ≤ 15)) where
  pub names_even : w % 2 ≡ 0
  names_even = let e : w / 2 ^ 0 % 2 ^ 1 ≡ 0 = unnamed w 0 (λ q. omega (arith, (each 0 q).0)) in omega arith

  pub names_low : w < 2 ^ 16
  names_low =
      let h : w / 2 ^ 16 ≡ 0 =
      no_bit (w / 2 ^ 16) (w / 2 ^ 16) (omega arith) (λ q. ap (λ (x : ℕ). x % 2 ^ 1) (shr-shr w 16 q) ∙ unnamed w (16 + q) (λ y. omega (arith, (each (16 + q) y).1))) in
      omega arith
