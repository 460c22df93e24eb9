-- No piece of a cover lies across the end of a largest piece: so every cover has a piece that starts where each largest one starts, and none has fewer.
use Rattle.std.specs.Prelude.{◌≡◌, Bool, true, List, ℕ, suc, ◌+◌, ◌-◌, ◌*◌, ◌^◌, ◌≤◌, ◌<◌, leb, length}
use Rattle.std.proofs.Common.{ap, sym, subst, ◌∙◌, suc-mul, mul_assoc, mul_comm, pow-suc, mul-le-mul_right, lt_of_mul-lt-mul_right, arith, pow_pos, pow_mono, leb-true, le-leb}
use Rattle.std.proofs.Math.Decide.{dec_lt, ℕ_discrete}
use Rattle.loops.specs.Loops.{count}
use Rattle.loops.specs.Laws.Count.{count_le, count_fewer, without, without_other, count_without}
use Rattle.shapes.specs.Pieces.{Piece, pieces}
use Rattle.shapes.specs.Fewest.{InPiece, nth_piece, Covers}
use Rattle.shapes.proofs.Laws.Widest.{Widest, power_of}
use Rattle.shapes.proofs.Laws.Greedy.{Greedy, ended, next, pieces_greedy}

-- of two multiples of p the lower ends by the higher
next_multiple : (k m p : ℕ) → k * p < m * p → k * p + p ≤ m * p
next_multiple k m p h =
    let c : suc k ≤ m = lt_of_mul-lt-mul_right p h in
    let d = mul-le-mul_right p c in
    omega (arith, suc-mul k p, d)

-- every piece inside a to b that starts before s ends by s
pub record Uncrossed (a b s : ℕ) : Type 0 where
  pub ends : (x e k : ℕ) → x ≡ k * 2 ^ e → a ≤ x → x + 2 ^ e ≤ b → x < s → x + 2 ^ e ≤ s

pub clean_start : (a b : ℕ) → Uncrossed a b a
clean_start a b = record { ends = λ x e k m l h c. absurd (omega arith) }

module _ {a b s j : ℕ} (w : Widest s b j) (was : Uncrossed a b s) where
  -- a piece of no more lines ends by a multiple of them
  lower : (x e k : ℕ) → x ≡ k * 2 ^ e → e ≤ j → x < s + 2 ^ j → x + 2 ^ e ≤ s + 2 ^ j
  lower x e k m h c =
      let t = w.fits.times in
      let y : s + 2 ^ j ≡ (suc t * 2 ^ (j - e)) * 2 ^ e = omega (arith, w.fits.multiple, suc-mul t (2 ^ j)) ∙ ap (λ (z : ℕ). suc t * z) (power_of e j h) ∙ sym (mul_assoc (suc t) (2 ^ (j - e)) (2 ^ e)) in
      let r = next_multiple k (suc t * 2 ^ (j - e)) (2 ^ e) (subst (λ (z : ℕ). k * 2 ^ e < z) y (omega arith)) in
      omega (arith, r, y)

  -- a piece of more lines that starts among these starts at s: then twice as many fit there
  higher : (x e k : ℕ) → x ≡ k * 2 ^ e → j < e → x + 2 ^ e ≤ b → s ≤ x → x < s + 2 ^ j → ⊥
  higher x e k m h top from c =
      let q = k * 2 ^ (e - suc j) in
      let twice : 2 ^ suc j ≡ 2 ^ j * 2 = pow-suc 2 j in
      let y : x ≡ q * 2 ^ suc j = m ∙ ap (λ (z : ℕ). k * z) (power_of (suc j) e h) ∙ sym (mul_assoc k (2 ^ (e - suc j)) (2 ^ suc j)) in
      let v : x ≡ (q * 2) * 2 ^ j = y ∙ ap (λ (z : ℕ). q * z) (twice ∙ mul_comm (2 ^ j) 2) ∙ sym (mul_assoc q 2 (2 ^ j)) in
      let at : x ≡ s = same (q * 2) v from c in
      w.no_more (record { times = q; multiple = sym at ∙ y; within = omega (arith, at, pow_mono {i = suc j} {j = e} h) })
    where
      same : (n : ℕ) → x ≡ n * 2 ^ j → s ≤ x → x < s + 2 ^ j → x ≡ s
      same n v from c = go (ℕ_discrete x s)
        where
          go : Dec (x ≡ s) → x ≡ s
          go (yes z) = z
          go (no z) =
              let r = next_multiple w.fits.times n (2 ^ j) (omega (arith, w.fits.multiple)) in
              absurd (omega (arith, w.fits.multiple, r))

  pub clean_next : Uncrossed a b (s + 2 ^ j)
  clean_next = record { ends = λ x e k m l top c. go x e k m l top c (dec_lt x s) (dec_lt j e) }
    where
      go : (x e k : ℕ) → x ≡ k * 2 ^ e → a ≤ x → x + 2 ^ e ≤ b → x < s + 2 ^ j → Dec (x < s) → Dec (j < e) → x + 2 ^ e ≤ s + 2 ^ j
      go x e k m l top c (yes d) _ = omega (arith, was.ends x e k m l top d)
      go x e k m l top c (no d) (yes h) = absurd (higher x e k m h top (omega arith) c)
      go x e k m l top c (no d) (no h) = lower x e k m (omega arith) c

-- ── none fewer do ──
module _ {a b : ℕ} {cs : List Piece} (c : Covers a b cs) where
  -- a piece of the list that starts at line s or later
  abbrev pub from : ℕ → ℕ → Bool
  from s i = leb s (nth_piece cs i).start

  -- a piece of the list that starts before s ends by s
  pub ends_by : {s : ℕ} → Uncrossed a b s → (i : ℕ) → i < length cs → (nth_piece cs i).start < s → (nth_piece cs i).start + (nth_piece cs i).lines ≤ s
  ends_by {s} clean i d z =
      let r = c.shaped i d in
      let top : (nth_piece cs i).start + 2 ^ r.power ≤ b = omega (arith, c.high i d, r.lines) in
      omega (arith, r.lines, clean.ends (nth_piece cs i).start r.power r.times r.start (c.low i d) top z)

  -- the piece that has line s starts there
  starts : {s : ℕ} → Uncrossed a b s → a ≤ s → s < b → (i : ℕ) × (i < length cs) × ((nth_piece cs i).start ≡ s)
  starts {s} clean l h = let (i, d, u) = c.every s l h in (i, d, go i d u (dec_lt (nth_piece cs i).start s))
    where
      go : (i : ℕ) → i < length cs → InPiece s (nth_piece cs i) → Dec ((nth_piece cs i).start < s) → (nth_piece cs i).start ≡ s
      go i d u (yes z) = absurd (omega (arith, u.to, ends_by clean i d z))
      go i d u (no z) = omega (arith, u.from)

  -- as many as there are largest pieces from s on
  pub as_many : {s : ℕ} {ps : List Piece} → Uncrossed a b s → a ≤ s → Greedy b s ps → length ps ≤ count (length cs) (from s)
  as_many clean l (ended z) = omega arith
  as_many clean l (next {s} {j} {ps} w g) =
      let p = pow_pos j in
      let (i, d, u) = starts clean l (omega (arith, w.fits.within)) in
      let here : from s i ≡ true = le-leb s (nth_piece cs i).start (omega arith) in
      let more = as_many (clean_next w clean) (omega arith) g in
      let fewer = count_fewer (length cs) (from (s + 2 ^ j)) (without (from s) i) (λ n q. others n i u q) in
      omega (arith, more, fewer, count_without (from s) i (length cs) d here)
    where
      others : (n i : ℕ) → (nth_piece cs i).start ≡ s → from (s + 2 ^ j) n ≡ true → without (from s) i n ≡ true
      others n i u q =
          let b = leb-true (s + 2 ^ j) (nth_piece cs n).start q in
          let p = pow_pos j in
          without_other (from s) i n (λ z. let e = ap (λ (m : ℕ). (nth_piece cs m).start) z in omega arith)
          ∙ le-leb s (nth_piece cs n).start (omega arith)

  -- whatever covers a to b has at least as many
  pub none_fewer : b < 2 ^ 27 → a ≤ b → length (pieces a b) ≤ length cs
  none_fewer small h = omega (arith, as_many (clean_start a b) (omega arith) (pieces_greedy small a h), count_le (length cs) (from a))
