-- A mask that is walked from bit 0 on: r, what is left of m, is its bits from p on.
use Rattle.std.specs.Prelude.{◌≡◌, true, false, ℕ, ◌+◌, ◌-◌, ◌/◌, ◌%◌, ◌^◌, ◌≤◌, ◌<◌}
use Rattle.std.proofs.Common.{ap, sym, ◌∙◌, arith, shr-shr}
use Rattle.std.proofs.Math.Decide.{ℕ_discrete}
use Rattle.std.proofs.lemmas.Nat.{shr_le}
use borrow.Author.Tests.{eq-eqb, ne_eqb}
use Rattle.loops.specs.Loops.{names}

-- whether the first of them is set, the others, and that there are none from 16 on
module _ (m p : ℕ) {r : ℕ} (e : r ≡ m / 2 ^ p) where
  pub bit_set : r % 2 ≡ 1 → names m p ≡ true
  unfolding names
  bit_set h = eq-eqb (m / 2 ^ p % 2 ^ 1) 1 (ap (λ (n : ℕ). n % 2) (sym e) ∙ h)

  pub bit_not : (r % 2 ≡ 1 → ⊥) → names m p ≡ false
  unfolding names
  bit_not h = ne_eqb (m / 2 ^ p % 2 ^ 1) 1 (λ z. h (ap (λ (n : ℕ). n % 2) e ∙ z))

  pub bits_half : r / 2 ≡ m / 2 ^ (p + 1)
  bits_half = ap (λ (n : ℕ). n / 2) e ∙ shr-shr m p 1

  pub bits_few : m < 0x1_0000 → p ≤ 16 → (r ≡ 0 → ⊥) → p < 16
  bits_few h k x = go (ℕ_discrete p 16)
    where
      go : Dec (p ≡ 16) → p < 16
      go (yes z) = let f : r ≡ m / 0x1_0000 = e ∙ ap (λ (n : ℕ). m / 2 ^ n) z in absurd (x (omega arith))
      go (no z) = omega arith

-- where none is left, none from p on is set
pub none_from : (m p : ℕ) → 0 ≡ m / 2 ^ p → (q : ℕ) → p ≤ q → names m q ≡ false
none_from m p e q x =
    let f : p + (q - p) ≡ q = omega arith in
    let zero : 0 / 2 ^ (q - p) ≤ 0 = shr_le 0 (q - p) in
    bit_not m q (ap (λ (n : ℕ). n / 2 ^ (q - p)) e ∙ shr-shr m p (q - p) ∙ ap (λ (n : ℕ). m / 2 ^ n) f) (λ z. omega arith)
