-- The number of pieces by halving: an odd start needs a piece of one line, so does an odd end, and what is left has as many pieces as its half has.
use Rattle.std.specs.Prelude.{◌≡◌, refl, List, [], ◌∷◌, ℕ, zero, suc, ◌+◌, ◌-◌, ◌*◌, ◌/◌, ◌%◌, ◌^◌, ◌≤◌, ◌<◌, length}
use Rattle.std.proofs.Common.{ap, sym, subst, ◌∙◌, pow-suc, mul_assoc, arith, pow_mono}
use Rattle.std.proofs.Math.Decide.{dec_lt, ℕ_discrete}
use Rattle.std.proofs.Math.Pow.{pow-lt}
use Rattle.shapes.specs.Pieces.{Piece, piece, pieces}
use Rattle.shapes.proofs.Laws.Widest.{Widest, one_fits}
use Rattle.shapes.proofs.Laws.Greedy.{Greedy, ended, next, greedy_one, pieces_greedy, pieces_none}

-- so many largest pieces from s to b
record Long (b s n : ℕ) : Type 0 where
  ps : List Piece
  greedy : Greedy b s ps
  number : length ps ≡ n

so_many : {b s m n : ℕ} → Long b s m → m ≡ n → Long b s n
so_many r e = record { ps = r.ps; greedy = r.greedy; number = r.number ∙ e }

-- ── twice a block has as many ──
twice : (t j : ℕ) → t * 2 ^ suc j ≡ (t * 2 ^ j) * 2
twice t j = ap (λ (z : ℕ). t * z) (pow-suc 2 j) ∙ sym (mul_assoc t (2 ^ j) 2)

widest_double : {s b j : ℕ} → Widest s b j → Widest (s * 2) (b * 2) (suc j)
widest_double {s} {b} {j} w = record {
  fits = record {
    times = w.fits.times;
    multiple = ap (λ (z : ℕ). z * 2) w.fits.multiple ∙ sym (twice w.fits.times j);
    within = omega (arith, w.fits.within, pow-suc 2 j);
  };
  no_more = λ f. w.no_more (record {
    times = f.times;
    multiple = omega (arith, f.multiple, twice f.times (suc j));
    within = omega (arith, f.within, pow-suc 2 (suc j));
  });
}

double : {b s : ℕ} {ps : List Piece} → Greedy b s ps → Long (b * 2) (s * 2) (length ps)
double (ended z) = record { ps = []; greedy = ended (ap (λ (n : ℕ). n * 2) z); number = refl }
double {b} (next {s} {j} w g) =
    let r = double g in
    let e : (s + 2 ^ j) * 2 ≡ s * 2 + 2 ^ suc j = omega (arith, pow-suc 2 j) in
    record {
      ps = piece (s * 2) (2 ^ suc j) ∷ r.ps;
      greedy = next (widest_double w) (subst (λ (n : ℕ). Greedy (b * 2) n r.ps) e r.greedy);
      number = ap suc r.number;
    }

-- ── one line more at an even end, and before an even start ──
-- a larger piece ends at an even line, so not with the line that is new
widest_last : {s b j : ℕ} → b % 2 ≡ 0 → Widest s b j → Widest s (b + 1) j
widest_last {s} {b} {j} even w = record {
  fits = record { times = w.fits.times; multiple = w.fits.multiple; within = omega (arith, w.fits.within) };
  no_more = λ f. w.no_more (record {
    times = f.times;
    multiple = f.multiple;
    within = omega (arith, f.within, f.multiple, twice f.times j, pow-suc 2 j);
  });
}

last : {b s : ℕ} {ps : List Piece} → b % 2 ≡ 0 → Greedy b s ps → Long (b + 1) s (length ps + 1)
last {b} even (ended {s} z) = record {
  ps = piece s (2 ^ 0) ∷ [];
  greedy = next {j = 0} (record { fits = one_fits s (b + 1) (omega arith); no_more = λ f. omega (arith, f.within) }) (ended {s = s + 2 ^ 0} (omega arith));
  number = refl;
}
last {b} even (next {s} {j} w g) =
    let r = last even g in
    record { ps = piece s (2 ^ j) ∷ r.ps; greedy = next (widest_last even w) r.greedy; number = omega (arith, r.number) }

first : {b s n : ℕ} → s % 2 ≡ 1 → s < b → Long b (s + 1) n → Long b s (n + 1)
first {b} {s} {n} odd h r = record {
  ps = piece s (2 ^ 0) ∷ r.ps;
  greedy = next {j = 0} (record { fits = one_fits s b h; no_more = λ f. omega (arith, f.multiple) }) r.greedy;
  number = omega (arith, r.number);
}

-- ── so ──
module _ {a b : ℕ} (small : b < 2 ^ 27) (h : a < b) where
  -- the number of the pieces, from those of half the block
  pub pieces_half : length (pieces a b) ≡ a % 2 + b % 2 + length (pieces ((a + 1) / 2) (b / 2))
  pieces_half = go (ℕ_discrete (b % 2) 0) (ℕ_discrete (a % 2) 0)
    where
      half : Long (b / 2 * 2) ((a + 1) / 2 * 2) (length (pieces ((a + 1) / 2) (b / 2)))
      half = double (pieces_greedy (omega arith) ((a + 1) / 2) (omega arith))

      same : {m : ℕ} → Long b a m → length (pieces a b) ≡ m
      same r = ap length (greedy_one (pieces_greedy small a (omega arith)) r.greedy refl) ∙ r.number

      end : Dec (b % 2 ≡ 0) → Long b ((a + 1) / 2 * 2) (b % 2 + length (pieces ((a + 1) / 2) (b / 2)))
      end (yes z) = let e : b / 2 * 2 ≡ b = omega arith in so_many (rw e at half) (omega arith)
      end (no z) =
          let e : b / 2 * 2 + 1 ≡ b = omega arith in
          so_many (rw e at (last (omega arith) half.greedy)) (omega (arith, half.number))

      go : Dec (b % 2 ≡ 0) → Dec (a % 2 ≡ 0) → length (pieces a b) ≡ a % 2 + b % 2 + length (pieces ((a + 1) / 2) (b / 2))
      go x (yes z) = let e : (a + 1) / 2 * 2 ≡ a = omega arith in omega (arith, z, same (rw e at (end x)))
      go x (no z) =
          let e : (a + 1) / 2 * 2 ≡ a + 1 = omega arith in
          omega (arith, same (first (omega arith) h (rw e at (end x))))

-- ── at most 52 ──
-- below 2 ^ (n + 2), at most 2 n + 2
few : (n a b : ℕ) → b < 2 ^ (n + 2) → b < 2 ^ 27 → length (pieces a b) ≤ 2 * n + 2
few zero a b top small = go (dec_lt a b) (dec_lt ((a + 1) / 2) (b / 2))
  where
    go : Dec (a < b) → Dec ((a + 1) / 2 < b / 2) → length (pieces a b) ≤ 2 * 0 + 2
    go (no d) _ = omega (arith, ap length (pieces_none a b (omega arith)))
    go (yes d) (no e) = omega (arith, pieces_half small d, ap length (pieces_none ((a + 1) / 2) (b / 2) (omega arith)))
    go (yes d) (yes e) =
        let x = pieces_half {a = (a + 1) / 2} {b = b / 2} (omega arith) e in
        omega (arith, pieces_half small d, x, ap length (pieces_none (((a + 1) / 2 + 1) / 2) (b / 2 / 2) (omega arith)))
few (suc n) a b top small = go (few n ((a + 1) / 2) (b / 2)) (dec_lt a b)
  where
    go : (b / 2 < 2 ^ (n + 2) → b / 2 < 2 ^ 27 → length (pieces ((a + 1) / 2) (b / 2)) ≤ 2 * n + 2) → Dec (a < b) → length (pieces a b) ≤ 2 * suc n + 2
    go on (no d) = omega (arith, ap length (pieces_none a b (omega arith)))
    go on (yes d) =
        let p : suc n + 2 ≡ suc (n + 2) = omega arith in
        let q : 2 ^ (suc n + 2) ≡ 2 ^ (n + 2) * 2 = ap (λ (k : ℕ). 2 ^ k) p ∙ pow-suc 2 (n + 2) in
        omega (arith, pieces_half small d, on (omega (arith, q)) (omega arith))

pub pieces_few : (a b : ℕ) → b < 2 ^ 27 → length (pieces a b) ≤ 52
pieces_few a b small = few 25 a b small small

-- .. and that many are needed: two at each halving
most : (n : ℕ) → n ≤ 26 → length (pieces 1 (2 ^ (n + 1) - 1)) ≡ 2 * n
most zero h = ap length (pieces_none 1 (2 ^ (0 + 1) - 1) (omega arith))
most (suc n) h = go (most n (omega arith))
  where
    go : length (pieces 1 (2 ^ (n + 1) - 1)) ≡ 2 * n → length (pieces 1 (2 ^ (suc n + 1) - 1)) ≡ 2 * suc n
    go fewer =
        let p : suc n + 1 ≡ suc (n + 1) = omega arith in
        let q : 2 ^ (suc n + 1) ≡ 2 ^ (n + 1) * 2 = ap (λ (k : ℕ). 2 ^ k) p ∙ pow-suc 2 (n + 1) in
        let small : 2 ^ (suc n + 1) ≤ 2 ^ 27 = pow_mono {i = suc n + 1} {j = 27} (omega arith) in
        let some : 1 < 2 ^ (n + 1) = pow-lt {i = 0} {j = n + 1} (omega arith) in
        let half : (2 ^ (suc n + 1) - 1) / 2 ≡ 2 ^ (n + 1) - 1 = omega arith in
        let low : (1 + 1) / 2 ≡ 1 = omega arith in
        let x = pieces_half {a = 1} {b = 2 ^ (suc n + 1) - 1} (omega arith) (omega arith) in
        omega (arith, rw (low, half) at x)

pub pieces_most : length (pieces 1 134217727) ≡ 52
pieces_most = most 26 (omega arith)
