-- The largest piece at a line: what the tests say, that there is one such size, and the loop that doubles up to it.
use Rattle.std.specs.Prelude.{◌≡◌, refl, Bool, true, false, cond, ℕ, zero, suc, ◌+◌, ◌-◌, ◌*◌, ◌/◌, ◌%◌, ◌^◌, ◌≤◌, ◌<◌, eqb, leb}
use Rattle.std.proofs.Math.Path.{ap}
use Rattle.std.proofs.Common.{sym, subst, ◌∙◌, pow-suc, mul_assoc, arith, pow-add, pow_mono, eqb-true, eq-eqb, leb-true, le-leb}
use Rattle.std.proofs.lemmas.Bool.{false≢true}
use Rattle.std.proofs.Math.Bool.{and-eq-true_iff}
use Rattle.std.proofs.Math.Decide.{dec_lt}
use Rattle.std.proofs.Math.Pow.{pow_pos, split, low}
use Rattle.std.proofs.lemmas.Nat.{shl-shr}
use Rattle.shapes.specs.Pieces.{fits, grown, widest}

-- 2 ^ j lines from s on: s is a multiple of them, and they end by b
pub record FitsAt (s b j : ℕ) : Type 0 where
  pub times : ℕ
  pub multiple : s ≡ times * 2 ^ j
  pub within : s + 2 ^ j ≤ b

-- the largest that fits at s
pub record Widest (s b j : ℕ) : Type 0 where
  pub fits : FitsAt s b j
  pub no_more : FitsAt s b (suc j) → ⊥

-- ── the test says it ──
fits_says : (s b j : ℕ) → fits s b j ≡ true → FitsAt s b j
unfolding fits
fits_says s b j q =
    let (x, y) = (and-eq-true_iff (eqb (s % 2 ^ j) 0) (leb (s + 2 ^ j) b)).0 q in
    let z = eqb-true (s % 2 ^ j) 0 x in
    record { times = s / 2 ^ j; multiple = omega (arith, split s j, z); within = leb-true (s + 2 ^ j) b y }

fits_true : (s b j : ℕ) → FitsAt s b j → fits s b j ≡ true
unfolding fits
fits_true s b j h =
    let z : s ≡ h.times * 2 ^ j + 0 = omega (arith, h.multiple) in
    let r : s % 2 ^ j ≡ 0 = ap (λ (x : ℕ). x % 2 ^ j) z ∙ low h.times j (pow_pos j) in
    rw (eq-eqb (s % 2 ^ j) 0 r, le-leb (s + 2 ^ j) b h.within) refl

-- what is grown fits, and no more does unless n steps were too few
grown_widest : (n j s b : ℕ) → FitsAt s b j → b < 2 ^ (n + j) → Widest s b (grown n j s b)
unfolding grown
grown_widest zero j s b h small = let z : 0 + j ≡ j = omega arith in absurd (omega (arith, h.within, rw z at small))
grown_widest (suc n) j s b h small =
    let e : suc n + j ≡ n + suc j = omega arith in
    go (λ f. grown_widest n (suc j) s b f (subst (λ (k : ℕ). b < 2 ^ k) e small)) (fits s b (suc j)) refl
  where
    go : (FitsAt s b (suc j) → Widest s b (grown n (suc j) s b)) → (x : Bool) → fits s b (suc j) ≡ x → Widest s b (cond x (grown n (suc j) s b) j)
    go on true q = on (fits_says s b (suc j) q)
    go on false q = record { fits = h; no_more = λ f. false≢true (sym q ∙ fits_true s b (suc j) f) }

-- a line by itself fits
pub one_fits : (s b : ℕ) → s < b → FitsAt s b 0
one_fits s b h = record { times = s; multiple = omega arith; within = omega arith }

pub widest_is : (s b : ℕ) → b < 2 ^ 27 → s < b → Widest s b (grown 27 0 s b)
widest_is s b small h = grown_widest 27 0 s b (one_fits s b h) small

-- ── there is one largest ──
-- a power is a multiple of a lower one
pub power_of : (e j : ℕ) → e ≤ j → 2 ^ j ≡ 2 ^ (j - e) * 2 ^ e
power_of e j h = let z : j ≡ j - e + e = omega arith in ap (λ (k : ℕ). 2 ^ k) z ∙ pow-add 2 (j - e) e

-- where more lines fit, fewer do
fits_less : {s b j k : ℕ} → FitsAt s b k → j ≤ k → FitsAt s b j
fits_less {s} {b} {j} {k} f h = record {
  times = f.times * 2 ^ (k - j);
  multiple = f.multiple ∙ ap (λ (z : ℕ). f.times * z) (power_of j k h) ∙ sym (mul_assoc f.times (2 ^ (k - j)) (2 ^ j));
  within = omega (arith, f.within, pow_mono {i = j} {j = k} h);
}

pub widest_one : {s b i j : ℕ} → Widest s b i → Widest s b j → i ≡ j
widest_one {s} {b} {i} {j} v w = go (dec_lt i j) (dec_lt j i)
  where
    go : Dec (i < j) → Dec (j < i) → i ≡ j
    go (yes d) _ = absurd (v.no_more (fits_less w.fits d))
    go (no d) (yes e) = absurd (w.no_more (fits_less v.fits e))
    go (no d) (no e) = omega arith

-- ── the loop that doubles ──
-- so many lines fit at s; s is `rest` times their number
pub record Growing (s b lines rest : ℕ) : Type 0 where
  pub power : ℕ
  pub size : lines ≡ 2 ^ power
  pub fits : FitsAt s b power
  pub quotient : rest ≡ fits.times

pub grow_start : {s b : ℕ} → s < b → Growing s b 1 s
grow_start {s} {b} h = record { power = 0; size = refl; fits = record { times = s; multiple = omega arith; within = omega arith }; quotient = refl }

module _ {s b lines rest : ℕ} (g : Growing s b lines rest) where
  double : 2 ^ suc g.power ≡ 2 * lines
  double = omega (arith, pow-suc 2 g.power, g.size)

  pub grow_some : 0 < lines
  grow_some = omega (arith, pow_pos g.power, g.size)

  -- half as often twice as many
  halved : rest % 2 ≡ 0 → s ≡ rest / 2 * 2 ^ suc g.power
  halved even =
      let p = g.power in
      let z : rest ≡ rest / 2 * 2 = omega arith in
      g.fits.multiple
      ∙ ap (λ (t : ℕ). t * 2 ^ p) (sym g.quotient ∙ z)
      ∙ mul_assoc (rest / 2) 2 (2 ^ p)
      ∙ ap (λ (t : ℕ). rest / 2 * t) (omega (arith, pow-suc 2 p))

  pub grow_on : rest % 2 ≡ 0 → s + 2 * lines ≤ b → Growing s b (2 * lines) (rest / 2)
  grow_on even room = record {
    power = suc g.power;
    size = sym double;
    fits = record { times = rest / 2; multiple = halved even; within = omega (arith, double) };
    quotient = refl;
  }

  found : b < 2 ^ 27 → (FitsAt s b (suc g.power) → ⊥) → lines ≡ widest s b
  unfolding widest
  found small n =
      let p = pow_pos g.power in
      let h : s < b = omega (arith, g.fits.within) in
      g.size ∙ ap (λ (k : ℕ). 2 ^ k) (widest_one (record { fits = g.fits; no_more = n }) (widest_is s b small h))

  -- an odd multiple: twice as many do not start there
  pub grow_odd : b < 2 ^ 27 → (rest % 2 ≡ 0 → ⊥) → lines ≡ widest s b
  grow_odd small odd = found small no_fit
    where
      no_fit : FitsAt s b (suc g.power) → ⊥
      no_fit f =
          let p = g.power in
          let e : rest * 2 ^ p ≡ (f.times * 2) * 2 ^ p =
          ap (λ (t : ℕ). t * 2 ^ p) g.quotient ∙ sym g.fits.multiple ∙ f.multiple ∙ ap (λ (t : ℕ). f.times * t) (omega (arith, pow-suc 2 p)) ∙ sym (mul_assoc f.times 2 (2 ^ p)) in
          let z : rest ≡ f.times * 2 = sym (shl-shr rest p) ∙ ap (λ (t : ℕ). t / 2 ^ p) e ∙ shl-shr (f.times * 2) p in
          odd (omega arith)

  -- no room for twice as many
  pub grow_full : b < 2 ^ 27 → b < s + 2 * lines → lines ≡ widest s b
  grow_full small full = found small (λ f. omega (arith, f.within, double))
