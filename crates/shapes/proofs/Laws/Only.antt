-- A cover of as few pieces in rising order is the list of the largest pieces: its first starts at the block's first line, and were there another that starts
-- before the first largest one ends, too few would be left for the others.
use Rattle.std.specs.Prelude.{◌≡◌, refl, Bool, true, List, [], ◌∷◌, ℕ, zero, suc, ◌+◌, ◌-◌, ◌^◌, ◌≤◌, ◌<◌, length}
use Rattle.std.proofs.Common.{ap, ap₂, ◌∙◌, arith, pow_pos, leb-true}
use Rattle.std.proofs.Math.Decide.{dec_lt}
use Rattle.loops.specs.Laws.Count.{count_le, count_fewer, without, without_other, count_without}
use Rattle.shapes.specs.Pieces.{Piece, piece}
use Rattle.shapes.specs.Fewest.{InPiece, nth_piece, Covers, PiecesRising}
use Rattle.shapes.proofs.Laws.Widest.{Widest}
use Rattle.shapes.proofs.Laws.Greedy.{Greedy, ended, next}
use Rattle.shapes.proofs.Laws.Clean.{Uncrossed, clean_start, clean_next, from, ends_by, as_many}

-- the first starts no later than any
first_lowest : {cs : List Piece} → PiecesRising cs → (i : ℕ) → i < length cs → (nth_piece cs 0).start ≤ (nth_piece cs i).start
first_lowest r zero h = omega arith
first_lowest r (suc i) h = omega (arith, first_lowest r i (omega arith), r.next i h)

-- any of n numbers
abbrev any : ℕ → Bool
any k = true

module _ {b s j : ℕ} {ps : List Piece} (w : Widest s b j) (g : Greedy b (s + 2 ^ j) ps)
    {c : Piece} {cs : List Piece} (cover : Covers s b (c ∷ cs)) (rising : PiecesRising (c ∷ cs)) (few : length (c ∷ cs) ≤ suc (length ps)) where
  some : s < s + 2 ^ j
  some = omega (arith, pow_pos j)

  clean : Uncrossed s b (s + 2 ^ j)
  clean = clean_next w (clean_start s b)

  first_start : c.start ≡ s
  first_start =
      let (i, d, u) = cover.every s (omega arith) (omega (arith, some, w.fits.within)) in
      omega (arith, cover.low 0 (omega arith), first_lowest rising i d, u.from)

  -- the others start where the first largest piece ends, or later
  later : (i : ℕ) → i < length cs → s + 2 ^ j ≤ (nth_piece cs i).start
  later i d = go (dec_lt (nth_piece cs i).start (s + 2 ^ j))
    where
      neither : (nth_piece cs i).start < s + 2 ^ j → (k : ℕ) → from cover (s + 2 ^ j) k ≡ true → without (without any 0) (suc i) k ≡ true
      neither z k q =
          let far = leb-true (s + 2 ^ j) (nth_piece (c ∷ cs) k).start q in
          without_other (without any 0) (suc i) k (λ e. let x = ap (λ (m : ℕ). (nth_piece (c ∷ cs) m).start) e in omega arith)
          ∙ without_other any 0 k (λ e. let x = ap (λ (m : ℕ). (nth_piece (c ∷ cs) m).start) e in omega (arith, first_start, some))

      go : Dec ((nth_piece cs i).start < s + 2 ^ j) → s + 2 ^ j ≤ (nth_piece cs i).start
      go (no z) = omega arith
      go (yes z) =
          let enough = as_many cover clean (omega (arith, some)) g in
          let fewer = count_fewer (length (c ∷ cs)) (from cover (s + 2 ^ j)) (without (without any 0) (suc i)) (neither z) in
          let one = count_without any 0 (length (c ∷ cs)) (omega arith) refl in
          let two = count_without (without any 0) (suc i) (length (c ∷ cs)) (omega arith) (without_other any 0 (suc i) (λ e. omega arith)) in
          absurd (omega (arith, enough, fewer, one, two, few, count_le (length (c ∷ cs)) any))

  ends : c.start + c.lines ≤ s + 2 ^ j
  ends = ends_by cover clean 0 (omega arith) (omega (arith, first_start, some))

  -- the first has the last of these lines: nobody else does
  first_lines : c.lines ≡ 2 ^ j
  first_lines =
      let (i, d, u) = cover.every (s + 2 ^ j - 1) (omega (arith, some)) (omega (arith, some, w.fits.within)) in
      go i d u
    where
      go : (i : ℕ) → i < length (c ∷ cs) → InPiece (s + 2 ^ j - 1) (nth_piece (c ∷ cs) i) → c.lines ≡ 2 ^ j
      go zero d u = omega (arith, u.to, ends, first_start, some)
      go (suc i) d u = absurd (omega (arith, u.from, later i (omega arith), some))

  first_is : c ≡ piece s (2 ^ j)
  first_is = ap₂ piece first_start first_lines

  -- the others cover what is left
  others : Covers (s + 2 ^ j) b cs
  others = record {
    shaped = λ i d. cover.shaped (suc i) (omega arith);
    low = later;
    high = λ i d. cover.high (suc i) (omega arith);
    every = λ l x y. let (i, d, u) = cover.every l (omega (arith, some)) y in go l x i d u;
  }
    where
      go : (l : ℕ) → s + 2 ^ j ≤ l → (i : ℕ) → i < length (c ∷ cs) → InPiece l (nth_piece (c ∷ cs) i) → (i : ℕ) × (i < length cs) × InPiece l (nth_piece cs i)
      go l x zero d u = absurd (omega (arith, u.to, ends))
      go l x (suc i) d u = (i, omega arith, u)

  others_rise : PiecesRising cs
  others_rise = record { next = λ i h. rising.next (suc i) (omega arith) }

pub only : {b s : ℕ} {ps : List Piece} → Greedy b s ps → (cs : List Piece) → Covers s b cs → PiecesRising cs → length cs ≤ length ps → cs ≡ ps
only (ended z) [] cover rising few = refl
only (ended z) (c ∷ cs) cover rising few = absurd (omega arith)
only (next {s} {j} w g) [] cover rising few =
    let (i, d, u) = cover.every s (omega arith) (omega (arith, pow_pos j, w.fits.within)) in
    absurd (omega arith)
only (next w g) (c ∷ cs) cover rising few =
    ap₂ ◌∷◌ (first_is w g cover rising few) (only g cs (others w g cover rising few) (others_rise w g cover rising few) (omega arith))
