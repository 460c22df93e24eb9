-- The walk that makes one mark for each run, line by line what it keeps; at its end the marks are those of the runs. They are copied over words, and the runs are read back from there.
use Rattle.std.specs.Prelude.{◌≡◌, Bool, true, false, cond, ℕ, suc, ◌+◌, ◌-◌, ◌^◌, ◌≤◌, ◌<◌, eqb, leb, length, set, replicate}
use Rattle.std.proofs.Math.Path.{refl, ap, sym}
use Rattle.std.proofs.Common.{ap₂, subst, ◌∙◌, add-one, length-set, get_or-set_same, get_or-set_other}
use mathlib.Core.List.{List}
use Rattle.std.proofs.Math.Decide.{ℕ_discrete, dec_lt}
use native.Mathlib.Omega.{arith}
use Rattle.std.proofs.Math.ListN.{get_or}
use borrow.Author.Tests.{eqb-true, eqb-false, eq-eqb, ne_eqb, lt-ltb, le-ltb, le-leb, lt-leb}
use Rattle.loops.specs.Laws.Rewrite.{tab_at, tab_is, tab_ext}
use Rattle.keeping.specs.Keeping.{kept}
use Rattle.words.specs.Kind.{fields_in}
use Rattle.words.specs.Words.{mark}
use Rattle.words.specs.Kinds.{line_in, holder_in, mark_for}
use Rattle.words.specs.Laws.Kinds.{line_in_law, holder_in_law, mark_small}
use Rattle.words.specs.declared.mark_word.MarkFields.{MarkFields}
use Rattle.tables.specs.State.{K}
use Rattle.sound.specs.Core.{Core}
use Rattle.runs.specs.declared.Run.{Run}
use Rattle.runs.specs.declared.pieces.PieceEnd.{PieceEnd}
use Rattle.runs.specs.Laws.Stored.{firsts, length_firsts, firsts_at, firsts_is}
use Rattle.runs.specs.Runs.{deepest_at, run_of, runs_of, nth_run, On}
use Rattle.runs.specs.Laws.RunLaws.{run_within, Runs, runs_to}
use Rattle.runs.specs.Laws.OneList.{one_list_of_runs}
use Rattle.runs.specs.Laws.Bound.{Starts, base_starts, other_starts, starts_few, runs_bound}
use Rattle.runs.specs.Pieces.{piece_end}
use Rattle.runs.specs.Laws.Pieces.{piece_same, piece_after, piece_within, deepest_small}
use Rattle.runs.specs.Places.{Passed}
use Rattle.runs.specs.Laws.Places.{passed_none, passed_later}
use Rattle.runs.specs.Ways.{low_at, who_at, Way, Standing, Pieced}
use Rattle.runs.specs.Laws.Ways.{way_start, way_later}
use Rattle.runs.specs.Marks.{run_at, mark_of, marks_over, Marked}

pub run_is : (w : List ℕ) (i : ℕ) {f g : MarkFields} → f ≡ fields_in mark (get_or w i 0) → g ≡ fields_in mark (get_or w (i + 1) 0) → record { start = f.line; end = g.line; deepest = f.holder } ≡ run_at w i
run_is w i p q = ap₂ (λ (f g : MarkFields). run_of f.line.0 g.line.0 f.holder.0) p q

-- ── the loop ──
-- at line l, n runs have begun, the last of them with deepest holder d (16 where none has), and their marks are made; b is what stood there before
pub record MarkingRuns (k : K) (b : List ℕ) (l n d : ℕ) (w : List ℕ) : Type 0 where
  pub size : length w ≡ 513
  pub from : k.base ≤ l
  pub to : l ≤ k.stop
  pub none : n ≡ 0 → (l ≡ k.base) × (d ≡ 16)
  pub first : 0 < n → low_at w 0 ≡ k.base
  pub starts : (i : ℕ) → i < n → Starts k (low_at w i)
  pub up : (i : ℕ) → suc i < n → low_at w i < low_at w (suc i)
  pub behind : (i : ℕ) → i < n → low_at w i < l
  pub same : (i j : ℕ) → i < n → low_at w i ≤ j → j < l → (suc i < n → j < low_at w (suc i)) → deepest_at k j ≡ who_at w i
  pub differ : (i : ℕ) → suc i < n → who_at w i ≡ who_at w (suc i) → ⊥
  pub last : (i : ℕ) → suc i ≡ n → who_at w i ≡ d
  pub whole : (i : ℕ) → i < n → get_or w i 0 ≡ mark_for (low_at w i) (who_at w i)
  pub rest : (i : ℕ) → n ≤ i → get_or w i 0 ≡ get_or b i 0

pub runs_mark_start : {k : K} {b : List ℕ} {l : ℕ} → Core k → length b ≡ 513 → l ≡ k.base → MarkingRuns k b l 0 16 b
runs_mark_start h s q = record {
  size = s;
  from = omega arith;
  to = omega (arith, h.s1);
  none = λ _. (q, refl);
  first = λ c. absurd (omega arith);
  starts = λ i c. absurd (omega arith);
  up = λ i c. absurd (omega arith);
  behind = λ i c. absurd (omega arith);
  same = λ i j c. absurd (omega arith);
  differ = λ i c. absurd (omega arith);
  last = λ i c. absurd (omega arith);
  whole = λ i c. absurd (omega arith);
  rest = λ i c. refl;
}

-- two results are equal: the number, and every mark
pub marked_one : {w : List ℕ} {n last l d r s : ℕ} {v u : List ℕ} → Marked w n last l d r v → Marked w n last l d s u → (r ≡ s) × (v ≡ u)
marked_one x y = (x.number ∙ sym y.number, x.marks ∙ sym y.marks)

module _ {w : List ℕ} {n last l d : ℕ} where
  pub marked_same : d ≡ last → Marked w n last l d n w
  marked_same q = record { number = rw (eq-eqb d last q) refl; marks = rw (eq-eqb d last q) refl }

  pub marked_new : {m : ℕ} → m ≡ mark_for l d → (d ≡ last → ⊥) → Marked w n last l d (n + 1) (set w n m)
  marked_new made q = record { number = rw (ne_eqb d last q) refl; marks = rw (ne_eqb d last q, made) refl }

module _ {k : K} (h : Core k) {b : List ℕ} {l n c : ℕ} {w : List ℕ} (inv : MarkingRuns k b l n c w) where
  pub marks_few : n ≤ 512
  marks_few = starts_few h inv.starts inv.up

  module _ {e d : ℕ} (inside : l < k.stop) (ends : e ≡ piece_end k l) (deepest : d ≡ deepest_at k l) (small : d < 16) (few : k.stop < 2 ^ 27) where
    after : l < e
    after = omega (arith, ends, piece_after k l inside)

    to_stop : e ≤ k.stop
    to_stop = omega (arith, ends, piece_within k l)

    piece : (j : ℕ) → l ≤ j → j < e → deepest_at k j ≡ d
    piece j u v = piece_same h l j u (omega (arith, ends)) ∙ sym deepest

    -- the run goes on
    goes_on : d ≡ c → MarkingRuns k b e n d w
    goes_on q = record {
      size = inv.size;
      from = omega (arith, inv.from, after);
      to = to_stop;
      none = λ z. absurd (omega (arith, (inv.none z).1));
      first = inv.first;
      starts = inv.starts;
      up = inv.up;
      behind = λ i x. omega (arith, inv.behind i x, after);
      same = λ i j x y z u. same i j x y z u (dec_lt j l);
      differ = inv.differ;
      last = λ i x. inv.last i x ∙ sym q;
      whole = inv.whole;
      rest = inv.rest;
    }
      where
        same : (i j : ℕ) → i < n → low_at w i ≤ j → j < e → (suc i < n → j < low_at w (suc i)) → Dec (j < l) → deepest_at k j ≡ who_at w i
        same i j x y z u (yes v) = inv.same i j x y v u
        same i j x y z u (no v) = go (dec_lt (suc i) n)
          where
            go : Dec (suc i < n) → deepest_at k j ≡ who_at w i
            go (yes m) = absurd (omega (arith, u m, inv.behind (suc i) m))
            go (no m) = piece j (omega arith) z ∙ q ∙ sym (inv.last i (omega arith))

    -- another begins
    begins : (d ≡ c → ⊥) → MarkingRuns k b e (n + 1) d (set w n (mark_for l d))
    begins q = record {
      size = length-set w n (mark_for l d) ∙ inv.size;
      from = omega (arith, inv.from, after);
      to = to_stop;
      none = λ z. absurd (omega arith);
      first = λ _. first (ℕ_discrete n 0);
      starts = λ i x. starts i x (ℕ_discrete i n);
      up = λ i x. up i x (ℕ_discrete (suc i) n);
      behind = λ i x. behind i x (ℕ_discrete i n);
      same = λ i j x y z u. same i j x y z u (ℕ_discrete i n);
      differ = λ i x. differ i x (ℕ_discrete (suc i) n);
      last = λ i x. let z : i ≡ n = omega arith in rw z here_who;
      whole = λ i x. whole i x (ℕ_discrete i n);
      rest = λ i x. get_or-set_other w n i (mark_for l d) 0 (λ z. omega arith) ∙ inv.rest i (omega arith);
    }
      where
        v : List ℕ
        v = set w n (mark_for l d)

        here : get_or (set w n (mark_for l d)) n 0 ≡ mark_for l d
        here = get_or-set_same w n (mark_for l d) 0 (omega (arith, inv.size, marks_few))

        here_low : low_at (set w n (mark_for l d)) n ≡ l
        here_low = ap line_in here ∙ line_in_law l d (omega arith) small

        here_who : who_at (set w n (mark_for l d)) n ≡ d
        here_who = ap holder_in here ∙ holder_in_law l d (omega arith) small

        there : (i : ℕ) → (i ≡ n → ⊥) → get_or (set w n (mark_for l d)) i 0 ≡ get_or w i 0
        there i z = get_or-set_other w n i (mark_for l d) 0 z

        first : Dec (n ≡ 0) → low_at (set w n (mark_for l d)) 0 ≡ k.base
        first (yes z) = ap (low_at (set w n (mark_for l d))) (sym z) ∙ here_low ∙ (inv.none z).0
        first (no z) = ap line_in (there 0 (λ y. z (sym y))) ∙ inv.first (omega arith)

        -- the line before has another deepest holder: that of the run before
        new : Dec (n ≡ 0) → Starts k l
        new (yes z) = rw (inv.none z).0 (base_starts h)
        new (no z) =
            let a : suc (n - 1) ≡ n = omega arith in
            let x = inv.behind (n - 1) (omega arith) in
            let y = inv.same (n - 1) (l - 1) (omega arith) (omega arith) (omega arith) (λ m. absurd (omega arith)) in
            let s : l - 1 + 1 ≡ l = omega arith in
            rw s at (other_starts h (l - 1) (base_below (n - 1) (omega arith)) (omega arith) (λ m. q (deepest ∙ ap (deepest_at k) (sym s) ∙ sym m ∙ y ∙ inv.last (n - 1) a)))
          where
            -- no mark is before the first
            base_below : (i : ℕ) → i < n → k.base ≤ l - 1
            base_below i x = omega (arith, inv.first (omega arith), inv.behind 0 (omega arith))

        starts : (i : ℕ) → i < n + 1 → Dec (i ≡ n) → Starts k (low_at (set w n (mark_for l d)) i)
        starts i x (yes z) = rw (z, here_low) (new (ℕ_discrete n 0))
        starts i x (no z) = rw (there i z) (inv.starts i (omega arith))

        up : (i : ℕ) → suc i < n + 1 → Dec (suc i ≡ n) → low_at (set w n (mark_for l d)) i < low_at (set w n (mark_for l d)) (suc i)
        up i x (yes z) = rw (z, here_low, there i (λ y. omega arith)) (inv.behind i (omega arith))
        up i x (no z) = rw (there i (λ y. omega arith), there (suc i) z) (inv.up i (omega arith))

        behind : (i : ℕ) → i < n + 1 → Dec (i ≡ n) → low_at (set w n (mark_for l d)) i < e
        behind i x (yes z) = rw (z, here_low) after
        behind i x (no z) = rw (there i z) (omega (arith, inv.behind i (omega arith), after))

        same : (i j : ℕ) → i < n + 1 → low_at (set w n (mark_for l d)) i ≤ j → j < e → (suc i < n + 1 → j < low_at (set w n (mark_for l d)) (suc i)) → Dec (i ≡ n)
            → deepest_at k j ≡ who_at (set w n (mark_for l d)) i
        same i j x y z u (yes m) = rw (m, here_who) (piece j (rw (m, here_low) at y) z)
        same i j x y z u (no m) = rw (there i m) (inv.same i j (omega arith) (rw (there i m) at y) (earlier (ℕ_discrete (suc i) n)) next)
          where
            next : suc i < n → j < low_at w (suc i)
            next a = rw (there (suc i) (λ s. omega arith)) at (u (omega arith))

            earlier : Dec (suc i ≡ n) → j < l
            earlier (yes a) = rw (a, here_low) at (u (omega arith))
            earlier (no a) = omega (arith, next (omega arith), inv.behind (suc i) (omega arith))

        differ : (i : ℕ) → suc i < n + 1 → Dec (suc i ≡ n) → who_at (set w n (mark_for l d)) i ≡ who_at (set w n (mark_for l d)) (suc i) → ⊥
        differ i x (yes z) y = q (sym (rw (z, here_who, there i (λ s. omega arith)) at y) ∙ inv.last i z)
        differ i x (no z) y = inv.differ i (omega arith) (rw (there i (λ s. omega arith), there (suc i) z) at y)

        whole : (i : ℕ) → i < n + 1 → Dec (i ≡ n) → get_or (set w n (mark_for l d)) i 0 ≡ mark_for (low_at (set w n (mark_for l d)) i) (who_at (set w n (mark_for l d)) i)
        whole i x (yes z) = rw (z, here_low, here_who) here
        whole i x (no z) = rw (there i z) (inv.whole i (omega arith))

    pub runs_mark_on : {r : ℕ} {v : List ℕ} → Marked w n c l d r v → MarkingRuns k b e r d v
    runs_mark_on {r} {v} m = go (eqb d c) refl m.number m.marks
      where
        go : (x : Bool) → eqb d c ≡ x → r ≡ cond x n (n + 1) → v ≡ cond x w (set w n (mark_for l d)) → MarkingRuns k b e r d v
        go true z p q = rw (p, q) (goes_on (eqb-true d c z))
        go false z p q = rw (p, q) (begins (eqb-false d c z))

-- ── the walk: the marks, the places and the way ──
pub record Walk (k : K) (o b : List ℕ) (l n c d : ℕ) (s y w : List ℕ) : Type 0 where
  pub marking : MarkingRuns k b l n c w
  pub passed : Passed k o l s
  pub way : Way k l d y

module _ {k : K} {o b : List ℕ} where
  pub walk_begins : {l e m : ℕ} → Core k → k.stop < 2 ^ 27 → length b ≡ 513 → l ≡ k.base → e ≡ k.stop → m ≡ mark_for e 0 → Walk k o b l 0 16 0 (replicate 16 0) (replicate 16 m) b
  walk_begins h few s q z made = record { marking = runs_mark_start h s q; passed = passed_none; way = way_start h few q z made }

  module _ {l n c d : ℕ} {s y w : List ℕ} (inv : Walk k o b l n c d s y w) where
    pub standing : l < k.stop → Standing k o l d s y
    standing x = record { inside = x; passed = inv.passed; way = inv.way }

    pub walk_past_piece : {r : PieceEnd} {m : ℕ} {s' y' v : List ℕ} → Core k → k.stop < 2 ^ 27 → l < k.stop → Pieced k o l r s' y' → Marked w n c l r.deepest.0 m v
        → Walk k o b r.end.0 m r.deepest.0 r.depth s' y' v
    walk_past_piece h few x p q =
        let z = piece_after k l x in
        record {
          marking = runs_mark_on h inv.marking x p.end p.deepest p.small few q;
          passed = passed_later (omega (arith, p.end)) p.passed;
          way = way_later (omega (arith, p.end)) p.way;
        }

    pub walk_nearer : {e : ℕ} → l < k.stop → e ≡ piece_end k l → k.stop - e < k.stop - l
    walk_nearer x q = omega (arith, q, piece_after k l x)

-- ── the end of memory ──
module _ {k : K} (h : Core k) {b : List ℕ} {l n c : ℕ} {w : List ℕ} (inv : MarkingRuns k b l n c w) (stops : k.stop ≤ l) (few : k.stop < 2 ^ 27) {m : ℕ} (made : m ≡ mark_for l 0) where
  -- the marks with the one after the last, and the runs between them
  abbrev v : List ℕ
  v = set w n m

  abbrev rs : List Run
  rs = firsts (run_at v) n

  begun : 0 < n
  begun = go (ℕ_discrete n 0)
    where
      go : Dec (n ≡ 0) → 0 < n
      go (yes z) = absurd (omega (arith, (inv.none z).0, h.s1))
      go (no z) = omega arith

  after_last : get_or v n 0 ≡ mark_for k.stop 0
  after_last = let z : l ≡ k.stop = omega (arith, inv.to) in get_or-set_same w n m 0 (omega (arith, inv.size, marks_few h inv)) ∙ made ∙ ap (λ (e : ℕ). mark_for e 0) z

  end_low : low_at v n ≡ k.stop
  end_low = ap line_in after_last ∙ line_in_law k.stop 0 few (omega arith)

  mark_is : (i : ℕ) → i < n → get_or v i 0 ≡ get_or w i 0
  mark_is i x = get_or-set_other w n i m 0 (λ z. omega arith)

  low_is : (i : ℕ) → i < n → low_at v i ≡ low_at w i
  low_is i x = ap line_in (mark_is i x)

  who_is : (i : ℕ) → i < n → who_at v i ≡ who_at w i
  who_is i x = ap holder_in (mark_is i x)

  -- a run ends where the next mark says, and that is not past l
  next_is : (i : ℕ) → low_at v (i + 1) ≡ low_at v (suc i)
  next_is i = ap (low_at v) (add-one i)

  next_up : (i : ℕ) → i < n → (low_at v i < low_at v (suc i)) × (low_at v (suc i) ≤ l)
  next_up i x = go (ℕ_discrete (suc i) n)
    where
      go : Dec (suc i ≡ n) → (low_at v i < low_at v (suc i)) × (low_at v (suc i) ≤ l)
      go (yes z) = let e = ap (low_at v) z in (omega (arith, e, end_low, low_is i x, inv.behind i x, inv.to), omega (arith, e, end_low))
      go (no z) = let y : suc i < n = omega arith in (omega (arith, low_is i x, low_is (suc i) y, inv.up i y), omega (arith, low_is (suc i) y, inv.behind (suc i) y))

  size : length rs ≡ n
  size = length_firsts (run_at v) n

  at : (i : ℕ) → i < n → nth_run rs i ≡ run_at v i
  at i x = firsts_at (run_at v) n i (run_of 0 0 0) x

  runs : Runs k k.base k.stop rs
  runs = record {
    chain = record {
      some = omega (arith, size, begun);
      from = ap (λ (r : Run). r.start.0) (at 0 begun) ∙ low_is 0 begun ∙ inv.first begun;
      to = to (length rs - 1) (omega (arith, size, begun));
      next = λ i x. next i (omega (arith, size));
      long = λ i x. long i (omega (arith, size));
    };
    same = λ i j x o. same i j (omega (arith, size)) o;
    differ = λ i x. differ i (omega (arith, size));
  }
    where
      to : (i : ℕ) → suc i ≡ n → (nth_run rs i).end.0 ≡ k.stop
      to i z = ap (λ (r : Run). r.end.0) (at i (omega arith)) ∙ next_is i ∙ ap (low_at v) z ∙ end_low

      next : (i : ℕ) → suc i < n → (nth_run rs (suc i)).start.0 ≡ (nth_run rs i).end.0
      next i x = ap (λ (r : Run). r.start.0) (at (suc i) x) ∙ sym (ap (λ (r : Run). r.end.0) (at i (omega arith)) ∙ next_is i)

      long : (i : ℕ) → i < n → (nth_run rs i).start.0 < (nth_run rs i).end.0
      long i x = rw (at i x) (omega (arith, next_is i, (next_up i x).0))

      same : (i j : ℕ) → i < n → On (nth_run rs i) j → deepest_at k j ≡ (nth_run rs i).deepest.0
      same i j x o =
          let p : On (run_at v i) j = subst (λ (r : Run). On r j) (at i x) o in
          let q = next_up i x in
          inv.same i j x (omega (arith, low_is i x)) (omega (arith, next_is i)) (λ y. omega (arith, next_is i, low_is (suc i) y))
          ∙ sym (ap (λ (r : Run). r.deepest.0) (at i x) ∙ who_is i x)

      differ : (i : ℕ) → suc i < n → (nth_run rs i).deepest.0 ≡ (nth_run rs (suc i)).deepest.0 → ⊥
      differ i x q =
          let y : i < n = omega arith in
          inv.differ i x (sym (ap (λ (r : Run). r.deepest.0) (at i y) ∙ who_is i y) ∙ q ∙ ap (λ (r : Run). r.deepest.0) (at (suc i) x) ∙ who_is (suc i) x)

  -- there is one such list
  all : rs ≡ runs_of k
  unfolding runs_of
  all = one_list_of_runs rs (runs_of k) runs (runs_to k k.base k.stop h.s1)

  number : n ≡ length (runs_of k)
  number = sym size ∙ ap length all

  pub runs_mark_end : (n ≡ length (runs_of k)) × (set w n m ≡ marks_over 513 k b)
  unfolding mark_of
  runs_mark_end = (number, tab_is 513 (mark_of k b) v (length-set w n m ∙ inv.size) (λ i x. go i (dec_lt i n) (ℕ_discrete i n)))
    where
      go : (i : ℕ) → Dec (i < n) → Dec (i ≡ n) → get_or v i 0 ≡ mark_of k b i
      go i (yes x) e =
          let r = ap (λ (l : List Run). nth_run l i) (sym all) ∙ at i x in
          rw (lt-ltb i (length (runs_of k)) (omega (arith, number)), r, mark_is i x) (inv.whole i x)
      go i (no x) (yes e) = rw (le-ltb i (length (runs_of k)) (omega (arith, number)), eq-eqb i (length (runs_of k)) (e ∙ number)) (ap (λ (j : ℕ). get_or v j 0) e ∙ after_last)
      go i (no x) (no e) =
          rw (le-ltb i (length (runs_of k)) (omega (arith, number)), ne_eqb i (length (runs_of k)) (λ z. e (z ∙ sym number)))
          (get_or-set_other w n i m 0 e ∙ inv.rest i (omega arith))

-- ── the marks in place of the words ──
-- what is kept of the marks does not depend on what they stood over
pub kept_marks : {k : K} (b c : List ℕ) {w : List ℕ} {n : ℕ} → Core k → n ≡ length (runs_of k) → w ≡ marks_over 513 k b → kept w n c ≡ marks_over 641 k c
unfolding mark_of
kept_marks {k} b c {w} {n} h number made = tab_ext 641 _ _ (λ i _. go i (dec_lt n i) (ℕ_discrete i n))
  where
    go : (i : ℕ) → Dec (n < i) → Dec (i ≡ n) → cond (leb i n) (get_or w i 0) (get_or c i 0) ≡ mark_of k c i
    go i (yes x) e = rw (lt-leb i n x, le-ltb i (length (runs_of k)) (omega (arith, number)), ne_eqb i (length (runs_of k)) (λ z. omega (arith, number))) refl
    go i (no x) e =
        rw (le-leb i n (omega arith)) (ap (λ (v : List ℕ). get_or v i 0) made ∙ tab_at 513 (mark_of k b) i (omega (arith, number, runs_bound h)) ∙ same e)
      where
        same : Dec (i ≡ n) → mark_of k b i ≡ mark_of k c i
        same (yes z) = rw (le-ltb i (length (runs_of k)) (omega (arith, number)), eq-eqb i (length (runs_of k)) (z ∙ number)) refl
        same (no z) = rw (lt-ltb i (length (runs_of k)) (omega (arith, number))) refl

-- ── read back ──
module _ {k : K} (h : Core k) (few : k.stop < 2 ^ 27) (b : List ℕ) where
  abbrev all_runs : List Run
  all_runs = runs_of k

  laws : Runs k k.base k.stop all_runs
  unfolding runs_of
  laws = runs_to k k.base k.stop h.s1

  mark_at : (i : ℕ) → i < length all_runs → (get_or (marks_over 641 k b) i 0 ≡ mark_for (nth_run all_runs i).start.0 (nth_run all_runs i).deepest.0) × ((nth_run all_runs i).deepest.0 < 16)
  unfolding mark_of
  mark_at i x = (
    tab_at 641 (mark_of k b) i (omega (arith, runs_bound h)) ∙ rw (lt-ltb i (length all_runs) x) refl,
    rw (← (laws.same i (nth_run all_runs i).start.0 x (omega arith, laws.chain.long i x)))
        (deepest_small h (omega (arith, (run_within laws.chain i x).0)) (omega (arith, (run_within laws.chain i x).1, laws.chain.long i x))),
  )

  mark_last : get_or (marks_over 641 k b) (length all_runs) 0 ≡ mark_for k.stop 0
  unfolding mark_of
  mark_last = tab_at 641 (mark_of k b) (length all_runs) (omega (arith, runs_bound h)) ∙ rw (le-ltb (length all_runs) (length all_runs) (omega arith), eq-eqb (length all_runs) (length all_runs) refl) refl

  -- where run i starts, and who holds it
  fields_at : (i : ℕ) → i < length all_runs → (low_at (marks_over 641 k b) i ≡ (nth_run all_runs i).start.0) × (who_at (marks_over 641 k b) i ≡ (nth_run all_runs i).deepest.0)
  fields_at i x =
      let (m, s) = mark_at i x in
      let z : (nth_run all_runs i).start.0 < 2 ^ 27 = omega (arith, (run_within laws.chain i x).1, laws.chain.long i x) in
      (ap line_in m ∙ line_in_law _ _ z s, ap holder_in m ∙ holder_in_law _ _ z s)

  run_at_law : (i : ℕ) → i < length all_runs → run_at (marks_over 641 k b) i ≡ nth_run all_runs i
  run_at_law i x =
      let (start, deepest) = fields_at i x in
      rw (start, deepest, go (ℕ_discrete (suc i) (length all_runs))) refl
    where
      go : Dec (suc i ≡ length all_runs) → low_at (marks_over 641 k b) (i + 1) ≡ (nth_run all_runs i).end.0
      go (yes z) =
          let e : i + 1 ≡ length all_runs = omega arith in
          let j : length all_runs - 1 ≡ i = omega arith in
          let t = rw j at laws.chain.to in
          rw e (ap line_in mark_last ∙ line_in_law k.stop 0 few (omega arith) ∙ sym t)
      go (no z) =
          let y : suc i < length all_runs = omega arith in
          rw (add-one i) ((fields_at (suc i) y).0 ∙ laws.chain.next i y)

  -- the runs between the marks are the runs
  pub read_back : firsts (run_at (marks_over 641 k b)) (length (runs_of k)) ≡ runs_of k
  read_back = firsts_is (run_at (marks_over 641 k b)) (run_of 0 0 0) (runs_of k) run_at_law

  -- each mark, and the one behind it, has 32 bits
  pub marks_short : (i : ℕ) → i < length (runs_of k) → (get_or (marks_over 641 k b) i 0 < 2 ^ 32) × (get_or (marks_over 641 k b) (i + 1) 0 < 2 ^ 32)
  marks_short i x = (short i x, go (ℕ_discrete (i + 1) (length all_runs)))
    where
      short : (i : ℕ) → i < length all_runs → get_or (marks_over 641 k b) i 0 < 2 ^ 32
      short i x =
          let (m, s) = mark_at i x in
          rw m (mark_small _ (omega (arith, (run_within laws.chain i x).1, laws.chain.long i x)) s)

      go : Dec (i + 1 ≡ length all_runs) → get_or (marks_over 641 k b) (i + 1) 0 < 2 ^ 32
      go (yes z) = rw (z, mark_last) (mark_small _ few (omega arith))
      go (no z) = short (i + 1) (omega arith)
