-- Zeros that both lines of a block end in can be taken out at once: it has as many pieces then.
use Rattle.std.specs.Prelude.{◌≡◌, refl, ℕ, zero, suc, ◌+◌, ◌*◌, ◌/◌, ◌%◌, ◌^◌, ◌≤◌, ◌<◌, max, length}
use Rattle.std.proofs.Common.{ap, ◌∙◌, pow-suc, arith, pow_mono, shr-shr}
use Rattle.std.proofs.Math.Decide.{dec_lt, ℕ_discrete}
use Rattle.std.specs.Int.Bits.{bit_or, or_step}
use Rattle.std.specs.Int.Count.{count_trailing_zeros, under}
use Rattle.shapes.specs.Pieces.{pieces, common_zeros}
use Rattle.shapes.proofs.Laws.Halves.{pieces_half}

-- z zeros are taken out of a and b
pub record ZerosShifted (a b z : ℕ) : Type 0 where
  pub few : 2 ^ z ≤ b
  pub less : a / 2 ^ z < b / 2 ^ z
  pub small : b / 2 ^ z ≤ b
  pub same : length (pieces a b) ≡ length (pieces (a / 2 ^ z) (b / 2 ^ z))

-- .. none, and one more
none : (a b : ℕ) → a < b → ZerosShifted a b 0
none a b h =
    let x : a / 2 ^ 0 ≡ a = omega arith in
    let y : b / 2 ^ 0 ≡ b = omega arith in
    record { few = omega arith; less = rw (x, y) h; small = omega arith; same = rw (x, y) refl }

once : (a b z : ℕ) → a < b → b < 2 ^ 27 → a % 2 ≡ 0 → b % 2 ≡ 0 → ZerosShifted (a / 2) (b / 2) z → ZerosShifted a b (suc z)
once a b z h small x y s =
    let e : 1 + z ≡ suc z = omega arith in
    let p : a / 2 / 2 ^ z ≡ a / 2 ^ suc z = shr-shr a 1 z ∙ ap (λ (n : ℕ). a / 2 ^ n) e in
    let q : b / 2 / 2 ^ z ≡ b / 2 ^ suc z = shr-shr b 1 z ∙ ap (λ (n : ℕ). b / 2 ^ n) e in
    let half : (a + 1) / 2 ≡ a / 2 = omega arith in
    let l : length (pieces a b) ≡ a % 2 + b % 2 + length (pieces (a / 2) (b / 2)) = rw half at (pieces_half small h) in
    let m : length (pieces a b) ≡ length (pieces (a / 2) (b / 2)) = omega arith in
    record {
      few = omega (arith, s.few, pow-suc 2 z);
      less = rw (← p, ← q) s.less;
      small = rw (← q) (omega (arith, s.small));
      same = rw (← p, ← q) (m ∙ s.same);
    }

-- the last digit of one that is put together of two, and the rest
digits : (w v m : ℕ) → w ≡ v * 2 + m → m < 2 → (w % 2 ≡ m) × (w / 2 ≡ v)
digits w v m e h = (omega arith, omega arith)

odd : (x y : ℕ) → x < 2 → y < 2 → (x ≡ 0 → y ≡ 0 → ⊥) → max x y ≡ 1
odd zero zero a b n = absurd (n refl refl)
odd zero (suc zero) a b n = refl
odd (suc zero) zero a b n = refl
odd (suc zero) (suc zero) a b n = refl
odd zero (suc (suc y)) a b n = absurd (omega arith)
odd (suc zero) (suc (suc y)) a b n = absurd (omega arith)
odd (suc (suc x)) y a b n = absurd (omega arith)

shift_out : (k a b : ℕ) → a < b → b < 2 ^ 27 → ZerosShifted a b (count_trailing_zeros k (bit_or a b))
unfolding count_trailing_zeros
shift_out zero a b h small = none a b h
shift_out (suc k) a b h small = go (ℕ_discrete (a % 2) 0) (ℕ_discrete (b % 2) 0) (shift_out k (a / 2) (b / 2))
  where
    ends : (a % 2 ≡ 0 → b % 2 ≡ 0 → ⊥) → ZerosShifted a b (under (bit_or a b % 2) (count_trailing_zeros k (bit_or a b / 2)))
    ends n =
        let m = odd (a % 2) (b % 2) (omega arith) (omega arith) n in
        let (last, _) = digits (bit_or a b) (bit_or (a / 2) (b / 2)) (max (a % 2) (b % 2)) (or_step a b) (omega (arith, m)) in
        rw (last ∙ m) (none a b h)

    go : Dec (a % 2 ≡ 0) → Dec (b % 2 ≡ 0) → (a / 2 < b / 2 → b / 2 < 2 ^ 27 → ZerosShifted (a / 2) (b / 2) (count_trailing_zeros k (bit_or (a / 2) (b / 2))))
        → ZerosShifted a b (under (bit_or a b % 2) (count_trailing_zeros k (bit_or a b / 2)))
    go (yes x) (yes y) on =
        let m : max (a % 2) (b % 2) ≡ 0 = rw (x, y) refl in
        let (last, rest) = digits (bit_or a b) (bit_or (a / 2) (b / 2)) (max (a % 2) (b % 2)) (or_step a b) (omega (arith, m)) in
        rw (last ∙ m, rest) (once a b _ h small x y (on (omega arith) (omega arith)))
    go (yes x) (no y) on = ends (λ _ z. y z)
    go (no x) _ on = ends (λ z _. x z)

module _ (a b : ℕ) (h : a < b) (small : b < 2 ^ 27) {z : ℕ} (is : z ≡ common_zeros a b) where
  pub zeros_out : ZerosShifted a b z
  zeros_out = rw is (shift_out 32 a b h small)

  pub zeros_few : z < 32
  zeros_few = go (dec_lt z 32)
    where
      go : Dec (z < 32) → z < 32
      go (yes d) = d
      go (no d) = let more : 2 ^ 27 ≤ 2 ^ z = pow_mono {i = 27} (omega arith) in absurd (omega (arith, zeros_out.few))
