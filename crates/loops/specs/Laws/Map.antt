-- A map of bits, bit by bit and in parts; the loop that gathers it; and that its trailing zeros are the first hit.
use Rattle.std.specs.Prelude.{◌≡◌, Bool, true, false, cond}
use Rattle.std.proofs.Math.Path.{refl}
use Rattle.std.proofs.Common.{ap, ap₂, sym, ◌∙◌, inl, inr, pow-suc, pow_mono, shr-shr}
use Prim.Native.Nat.{ℕ, zero, suc, ◌+◌, ◌-◌, ◌*◌, ◌/◌, ◌%◌, ◌^◌, ◌≤◌, ◌<◌}
use native.Mathlib.Omega.{arith}
use Rattle.std.specs.Int.Count.{count_trailing_zeros, under}
use Rattle.loops.specs.Loops.{bit_of, rest, hit_or, seek, map_from, map_of}
use Rattle.loops.specs.Laws.Bit.{bit_le}
use Rattle.loops.specs.Laws.Scan.{seek_law, seek_first, seek_none, Sought}

-- n bits make a number below 2^n
pub map_lt : (f : ℕ → Bool) (i n : ℕ) → map_from f i n < 2 ^ n
unfolding map_from
map_lt f i zero = omega arith
map_lt f i (suc n) = omega (arith, map_lt f (suc i) n, pow-suc 2 n, bit_le (f i))

-- ── bit by bit ──
bit_from : (f : ℕ → Bool) (i n j : ℕ) → j < n → map_from f i n / 2 ^ j % 2 ≡ bit_of (f (i + j))
unfolding map_from
bit_from f i zero j h = absurd (omega arith)
bit_from f i (suc n) zero h =
    let z : i + 0 ≡ i = omega arith in
    let e : (bit_of (f i) + 2 * map_from f (suc i) n) / 2 ^ 0 % 2 ≡ bit_of (f i) = omega (arith, bit_le (f i)) in
    rw z e
bit_from f i (suc n) (suc j) h =
    let m = bit_of (f i) + 2 * map_from f (suc i) n in
    let half : m / 2 ^ 1 ≡ map_from f (suc i) n = omega (arith, bit_le (f i)) in
    let s : 1 + j ≡ suc j = omega arith in
    let z : suc i + j ≡ i + suc j = omega arith in
    ap (λ (e : ℕ). m / 2 ^ e % 2) (sym s)
    ∙ ap (λ (x : ℕ). x % 2) (sym (shr-shr m 1 j))
    ∙ ap (λ (x : ℕ). x / 2 ^ j % 2) half
    ∙ bit_from f (suc i) n j (omega arith)
    ∙ ap (λ (x : ℕ). bit_of (f x)) z

-- bit i is what the test says of i
pub map_bit : (n : ℕ) (f : ℕ → Bool) (i : ℕ) → i < n → map_of n f / 2 ^ i % 2 ≡ bit_of (f i)
map_bit n f i h = let z : 0 + i ≡ i = omega arith in bit_from f 0 n i h ∙ ap (λ (x : ℕ). bit_of (f x)) z

-- ── in parts ──
-- a map of m bits, and n further ones above it
pub map_join : (f : ℕ → Bool) (i m n : ℕ) → map_from f i (m + n) ≡ map_from f i m + 2 ^ m * map_from f (i + m) n
unfolding map_from
map_join f i zero n =
    let z : 0 + n ≡ n = omega arith in
    let y : i + 0 ≡ i = omega arith in
    rw (z, y) (omega arith)
map_join f i (suc m) n =
    let z : suc m + n ≡ suc (m + n) = omega arith in
    let y : suc i + m ≡ i + suc m = omega arith in
    let p = pow-suc 2 m in
    rw (z, p, ← y) (omega (arith, map_join f (suc i) m n))

-- where the test holds of none, the map is 0
pub map_none : (f : ℕ → Bool) (i n : ℕ) → ((j : ℕ) → i ≤ j → j < i + n → f j ≡ false) → 0 ≡ map_from f i n
unfolding map_from
map_none f i zero h = refl
map_none f i (suc n) h = rw (h i (omega arith) (omega arith)) (omega (arith, map_none f (suc i) n (λ j a b. h j (omega arith) (omega arith))))

-- ── the loop that gathers it, from the last bit down ──
-- At i, the bits from i on are gathered, of the n from lo on.
pub record Mapping (f : ℕ → Bool) (lo n i x : ℕ) : Type 0 where
  pub above : lo ≤ i
  pub within : i ≤ lo + n
  pub made : x ≡ map_from f i (lo + n - i)

module _ {f : ℕ → Bool} {lo n : ℕ} where
  pub map_start : Mapping f lo n (lo + n) 0
  unfolding map_from
  map_start = record { above = omega arith; within = omega arith; made = let z : lo + n - (lo + n) ≡ 0 = omega arith in rw z refl }

  module _ {i x : ℕ} (inv : Mapping f lo n i x) (h : lo < i) where
    -- twice the map and one more is still a number of n bits
    pub map_room : 2 * x + 1 < 2 ^ n
    map_room =
        let p = pow-suc 2 (lo + n - i) in
        let c : 2 ^ suc (lo + n - i) ≤ 2 ^ n = pow_mono (omega (arith, inv.within)) in
        omega (arith, inv.made, map_lt f i (lo + n - i))

    pub map_on : {y : ℕ} → y ≡ bit_of (f (i - 1)) → Mapping f lo n (i - 1) (2 * x + y)
    unfolding map_from
    map_on {y} q = record {
      above = omega arith;
      within = omega (arith, inv.within);
      made =
          let e : lo + n - (i - 1) ≡ suc (lo + n - i) = omega (arith, inv.within) in
          let s : suc (i - 1) ≡ i = omega arith in
          rw (e, s) (omega (arith, inv.made, q));
    }

  pub map_end : {i x : ℕ} → Mapping f lo n i x → i ≤ lo → x ≡ map_from f lo n
  map_end {i} inv h =
      let z : i ≡ lo = omega (arith, inv.above) in
      let e : lo + n - i ≡ n = omega arith in
      inv.made ∙ ap₂ (map_from f) z e

-- ── its trailing zeros ──
-- they are as many as the first hit is far, or n
zeros_from : (f : ℕ → Bool) (i n : ℕ) → i + count_trailing_zeros n (map_from f i n) ≡ rest (hit_or f (λ j. j)) (i + n) i n
unfolding map_from count_trailing_zeros rest
zeros_from f i zero = refl
zeros_from f i (suc n) = go (f i) (zeros_from f (suc i) n)
  where
    go : (b : Bool) → suc i + count_trailing_zeros n (map_from f (suc i) n) ≡ rest (hit_or f (λ j. j)) (suc i + n) (suc i) n
        → i + under ((bit_of b + 2 * map_from f (suc i) n) % 2) (count_trailing_zeros n ((bit_of b + 2 * map_from f (suc i) n) / 2)) ≡ cond b i (rest (hit_or f (λ j. j)) (i + suc n) (suc i) n)
    go true ih =
        let odd : (1 + 2 * map_from f (suc i) n) % 2 ≡ 1 = omega arith in
        rw odd (omega arith)
    go false ih =
        let even : (0 + 2 * map_from f (suc i) n) % 2 ≡ 0 = omega arith in
        let half : (0 + 2 * map_from f (suc i) n) / 2 ≡ map_from f (suc i) n = omega arith in
        let e : i + suc n ≡ suc i + n = omega arith in
        rw (even, half, e, ← ih) (omega arith)

module _ (n : ℕ) (f : ℕ → Bool) {x : ℕ} (made : x ≡ map_of n f) where
  -- the lowest number below n that the test holds of, or n
  lowest_or : count_trailing_zeros n x ≡ seek f (λ j. j) n n
  lowest_or =
      let z : 0 + n ≡ n = omega arith in
      let y : count_trailing_zeros n (map_of n f) ≡ 0 + count_trailing_zeros n (map_of n f) = omega arith in
      ap (count_trailing_zeros n) made ∙ y ∙ zeros_from f 0 n ∙ ap (λ (m : ℕ). rest (hit_or f (λ j. j)) m 0 n) z

  module _ {A : Type 0} (hit : ℕ → A) (e : A) where
    -- n trailing zeros: there is no hit
    pub zeros_none : count_trailing_zeros n x ≡ n → e ≡ seek f hit e n
    zeros_none q = go (seek_law f (λ j. j) n n)
      where
        go : Sought f (λ j. j) n n (seek f (λ j. j) n n) → e ≡ seek f hit e n
        go (inl (k, r)) = absurd (omega (arith, q, lowest_or, r.is, r.below))
        go (inr r) = sym (seek_none f hit e n r.none)

    -- fewer: they are the first hit
    pub zeros_first : (count_trailing_zeros n x ≡ n → ⊥) → hit (count_trailing_zeros n x) ≡ seek f hit e n
    zeros_first q = go (seek_law f (λ j. j) n n)
      where
        go : Sought f (λ j. j) n n (seek f (λ j. j) n n) → hit (count_trailing_zeros n x) ≡ seek f hit e n
        go (inl (k, r)) = ap hit (lowest_or ∙ r.is) ∙ sym (seek_first f hit e n k r.below r.holds r.before)
        go (inr r) = absurd (q (lowest_or ∙ r.is))
