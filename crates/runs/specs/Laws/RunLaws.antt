-- The runs of a table are the longest runs of lines with the same holders; and there are no more of them than lines.
use Rattle.std.specs.Prelude.{◌≡◌, Bool, cond}
use Rattle.std.proofs.Math.Path.{refl, ap, sym}
use Rattle.std.proofs.Common.{◌∙◌, length-append, eqb-true}
use Rattle.std.proofs.Math.Bool.{true, false}
use mathlib.Core.List.{List, [], ◌∷◌, ◌++◌}
use Prim.Native.Nat.{ℕ, zero, suc, ◌+◌, ◌-◌, ◌≤◌, ◌<◌}
use Rattle.std.proofs.Math.Decide.{ℕ_discrete}
use native.Mathlib.Omega.{arith}
use Rattle.std.proofs.Math.Dec.{eqb}
use Rattle.std.proofs.Math.ListN.{length, get_or}
use Rattle.std.proofs.Math.Seq.{get_or-append_seam}
use Rattle.std.proofs.lemmas.Bool.{eqb-false}
use Rattle.loops.specs.Laws.Climb.{climb_root, climb_suc}
use Rattle.tables.specs.State.{K}
use Rattle.sound.specs.Holders.{trail, holders_of}
use Rattle.runs.specs.declared.Run.{Run}
use Rattle.runs.specs.Runs.{deepest_at, run_of, joined_runs, runs_from, runs_of, nth_run, On, Chain, Longest}

-- ── chains ──
-- a record alone
one_chain : (r : Run) → r.start.0 < r.end.0 → Chain r.start.0 r.end.0 (r ∷ [])
one_chain r h = record { some = omega arith; from = refl; to = refl; next = λ i b. absurd (omega arith); long = long }
  where
    long : (i : ℕ) → i < 1 → (nth_run (r ∷ []) i).start.0 < (nth_run (r ∷ []) i).end.0
    long zero b = h
    long (suc i) b = absurd (omega arith)

-- a record before others
more_chain : {m : ℕ} (r s : Run) (rs : List Run) → r.start.0 < r.end.0 → Chain r.end.0 m (s ∷ rs) → Chain r.start.0 m (r ∷ s ∷ rs)
more_chain r s rs h c = record {
  some = omega arith;
  from = refl;
  to = let e : suc (suc (length rs)) - 1 ≡ suc (suc (length rs) - 1) = omega arith in rw e c.to;
  next = next;
  long = long;
}
  where
    next : (i : ℕ) → suc i < suc (suc (length rs)) → (nth_run (r ∷ s ∷ rs) (suc i)).start.0 ≡ (nth_run (r ∷ s ∷ rs) i).end.0
    next zero b = c.from
    next (suc i) b = c.next i (omega arith)

    long : (i : ℕ) → i < suc (suc (length rs)) → (nth_run (r ∷ s ∷ rs) i).start.0 < (nth_run (r ∷ s ∷ rs) i).end.0
    long zero b = h
    long (suc i) b = c.long i (omega arith)

-- the others alone
pub tail_chain : {l m : ℕ} (r s : Run) (rs : List Run) → Chain l m (r ∷ s ∷ rs) → Chain r.end.0 m (s ∷ rs)
tail_chain r s rs c = record {
  some = omega arith;
  from = c.next 0 (omega arith);
  to = let e : suc (suc (length rs)) - 1 ≡ suc (suc (length rs) - 1) = omega arith in rw e at c.to;
  next = λ i b. c.next (suc i) (omega arith);
  long = λ i b. c.long (suc i) (omega arith);
}

-- the first record starts earlier
earlier_chain : {l m : ℕ} (s : ℕ) (r : Run) (rs : List Run) → s < r.end.0 → Chain l m (r ∷ rs) → Chain s m (run_of s r.end.0 r.deepest.0 ∷ rs)
earlier_chain {l} {m} s r rs h c = record { some = omega arith; from = refl; to = to; next = next; long = long }
  where
    at : ℕ → Run
    at = nth_run (run_of s r.end.0 r.deepest.0 ∷ rs)

    to : (at (suc (length rs) - 1)).end.0 ≡ m
    to = let e : suc (length rs) - 1 ≡ length rs = omega arith in rw e (go (length rs) (rw e at c.to))
      where
        go : (i : ℕ) → (nth_run (r ∷ rs) i).end.0 ≡ m → (at i).end.0 ≡ m
        go zero q = q
        go (suc i) q = q

    next : (i : ℕ) → suc i < suc (length rs) → (at (suc i)).start.0 ≡ (at i).end.0
    next zero b = c.next 0 b
    next (suc i) b = c.next (suc i) b

    long : (i : ℕ) → i < suc (length rs) → (at i).start.0 < (at i).end.0
    long zero b = h
    long (suc i) b = c.long (suc i) b

-- each record lies in l to m
pub run_within : {l m : ℕ} {rs : List Run} → Chain l m rs → (i : ℕ) → i < length rs → (l ≤ (nth_run rs i).start.0) × ((nth_run rs i).end.0 ≤ m)
run_within {l} {m} {rs} c i b = (up i b, down (length rs - 1 - i) i (omega arith) b)
  where
    up : (i : ℕ) → i < length rs → l ≤ (nth_run rs i).start.0
    up zero b = omega (arith, c.from)
    up (suc i) b = omega (arith, up i (omega arith), c.next i b, c.long i (omega arith))

    down : (n i : ℕ) → i + n ≡ length rs - 1 → i < length rs → (nth_run rs i).end.0 ≤ m
    down zero i e b = let z : i ≡ length rs - 1 = omega arith in rw z (omega (arith, c.to))
    down (suc n) i e b = omega (arith, down n (suc i) (omega arith) (omega arith), c.next i (omega arith), c.long (suc i) (omega arith))

-- so does each of its lines
pub line_within : {l m : ℕ} {rs : List Run} → Chain l m rs → (i n : ℕ) → i < length rs → On (nth_run rs i) n → (l ≤ n) × (n < m)
line_within c i n b o = let w = run_within c i b in (omega arith, omega arith)

-- ── runs, by the deepest holder ──
-- the runs of the lines l to m: what `Longest` says, of the deepest holder alone
pub record Runs (k : K) (l m : ℕ) (rs : List Run) : Type 0 where
  pub chain : Chain l m rs
  pub same : (i j : ℕ) → i < length rs → On (nth_run rs i) j → deepest_at k j ≡ (nth_run rs i).deepest.0
  pub differ : (i : ℕ) → suc i < length rs → (nth_run rs i).deepest.0 ≡ (nth_run rs (suc i)).deepest.0 → ⊥

module _ {k : K} where
  -- the run of one line
  alone : (l : ℕ) → Runs k l (l + 1) (run_of l (l + 1) (deepest_at k l) ∷ [])
  alone l = record { chain = one_chain (run_of l (l + 1) (deepest_at k l)) (omega arith); same = same; differ = λ i b. absurd (omega arith) }
    where
      same : (i j : ℕ) → i < 1 → On (nth_run (run_of l (l + 1) (deepest_at k l) ∷ []) i) j → deepest_at k j ≡ (nth_run (run_of l (l + 1) (deepest_at k l) ∷ []) i).deepest.0
      same zero j b o = let z : j ≡ l = omega arith in ap (deepest_at k) z
      same (suc i) j b o = absurd (omega arith)

  -- line l has the holders of the first run from l + 1 on, and begins it
  longer : {m : ℕ} (l : ℕ) (r : Run) (rs : List Run) → deepest_at k l ≡ r.deepest.0 → Runs k (l + 1) m (r ∷ rs) → Runs k l m (run_of l r.end.0 r.deepest.0 ∷ rs)
  longer l r rs q w = record {
    chain = earlier_chain l r rs (omega (arith, w.chain.from, w.chain.long 0 (omega arith))) w.chain;
    same = same;
    differ = differ;
  }
    where
      at : ℕ → Run
      at = nth_run (run_of l r.end.0 r.deepest.0 ∷ rs)

      here : (j : ℕ) → On (run_of l r.end.0 r.deepest.0) j → Dec (j ≡ l) → deepest_at k j ≡ r.deepest.0
      here j o (yes z) = ap (deepest_at k) z ∙ q
      here j o (no z) = w.same 0 j (omega arith) (omega (arith, w.chain.from), o.1)

      same : (i j : ℕ) → i < suc (length rs) → On (at i) j → deepest_at k j ≡ (at i).deepest.0
      same zero j b o = here j o (ℕ_discrete j l)
      same (suc i) j b o = w.same (suc i) j b o

      differ : (i : ℕ) → suc i < suc (length rs) → (at i).deepest.0 ≡ (at (suc i)).deepest.0 → ⊥
      differ zero b = w.differ 0 b
      differ (suc i) b = w.differ (suc i) b

  -- it has others, and is a run of its own
  another : {m : ℕ} (l : ℕ) (r : Run) (rs : List Run) → (deepest_at k l ≡ r.deepest.0 → ⊥) → Runs k (l + 1) m (r ∷ rs) → Runs k l m (run_of l (l + 1) (deepest_at k l) ∷ r ∷ rs)
  another l r rs n w = record { chain = more_chain (run_of l (l + 1) (deepest_at k l)) r rs (omega arith) w.chain; same = same; differ = differ }
    where
      at : ℕ → Run
      at = nth_run (run_of l (l + 1) (deepest_at k l) ∷ r ∷ rs)

      same : (i j : ℕ) → i < suc (suc (length rs)) → On (at i) j → deepest_at k j ≡ (at i).deepest.0
      same zero j b o = let z : j ≡ l = omega arith in ap (deepest_at k) z
      same (suc i) j b o = w.same i j (omega arith) o

      differ : (i : ℕ) → suc i < suc (suc (length rs)) → (at i).deepest.0 ≡ (at (suc i)).deepest.0 → ⊥
      differ zero b = n
      differ (suc i) b = w.differ i (omega arith)

  join : {m : ℕ} (l : ℕ) (rs : List Run) → Runs k (l + 1) m rs → Runs k l m (joined_runs k l rs)
  unfolding joined_runs
  join l [] w = absurd (omega (arith, w.chain.some))
  join {m} l (r ∷ rs) w = go (eqb (deepest_at k l) r.deepest.0) refl
    where
      go : (b : Bool) → eqb (deepest_at k l) r.deepest.0 ≡ b
          → Runs k l m (cond b (run_of l r.end.0 r.deepest.0 ∷ rs) (run_of l (l + 1) (deepest_at k l) ∷ r ∷ rs))
      go true q = longer l r rs (eqb-true _ _ q) w
      go false q = another l r rs (eqb-false _ _ q) w

  runs_from_law : (n l : ℕ) → Runs k l (l + suc n) (runs_from k l (suc n))
  unfolding runs_from joined_runs
  runs_from_law zero l = alone l
  runs_from_law (suc n) l =
      let e : l + suc (suc n) ≡ (l + 1) + suc n = omega arith in
      rw e (join l (runs_from k (l + 1) (suc n)) (runs_from_law n (l + 1)))

pub runs_to : (k : K) (l m : ℕ) → l < m → Runs k l m (runs_from k l (m - l))
runs_to k l m b = go (m - l) refl
  where
    go : (n : ℕ) → m - l ≡ n → Runs k l m (runs_from k l n)
    go zero q = absurd (omega arith)
    go (suc n) q = let e : m ≡ l + suc n = omega arith in rw e (runs_from_law n l)

-- there are no more runs than lines
module _ (k : K) where
  join_few : (l : ℕ) (rs : List Run) → length (joined_runs k l rs) ≤ suc (length rs)
  unfolding joined_runs
  join_few l [] = omega arith
  join_few l (r ∷ rs) = go (eqb (deepest_at k l) r.deepest.0)
    where
      go : (b : Bool) → length (cond b (run_of l r.end.0 r.deepest.0 ∷ rs) (run_of l (l + 1) (deepest_at k l) ∷ r ∷ rs)) ≤ suc (suc (length rs))
      go true = omega arith
      go false = omega arith

  pub runs_few : (n l : ℕ) → length (runs_from k l n) ≤ n
  unfolding runs_from
  runs_few zero l = omega arith
  runs_few (suc n) l = omega (arith, join_few l (runs_from k (l + 1) n), runs_few n (l + 1))

-- ── holders ──
-- the way up to the root ends at p: it says which partition p is
pub trail_last : (k : K) (p : ℕ) → get_or (trail k p 15) (length (trail k p 15) - 1) 0 ≡ p
unfolding trail
trail_last k p = go (ℕ_discrete p 0)
  where
    go : Dec (p ≡ 0) → get_or (trail k p 15) (length (trail k p 15) - 1) 0 ≡ p
    go (yes z) = rw (← climb_root k.parent (λ s. 0 ∷ []) [] (λ q r. r ++ (q ∷ [])) p 15 z) (sym z)
    go (no z) = rw (climb_suc k.parent (λ s. 0 ∷ []) [] (λ q r. r ++ (q ∷ [])) p 14 z) (end (trail k (k.parent p) 14))
      where
        end : (hs : List ℕ) → get_or (hs ++ (p ∷ [])) (length (hs ++ (p ∷ [])) - 1) 0 ≡ p
        end hs = let e : length hs + 1 - 1 ≡ length hs = omega arith in rw (length-append hs (p ∷ []), e) (get_or-append_seam hs p [] 0)

-- the holders of a line are those on the way to d exactly if d is its deepest holder
module _ (k : K) (l d : ℕ) where
  pub same_trail : deepest_at k l ≡ d → holders_of k l ≡ trail k d 15
  unfolding holders_of
  same_trail q = ap (λ (p : ℕ). trail k p 15) q

  pub trail_one : holders_of k l ≡ trail k d 15 → deepest_at k l ≡ d
  unfolding holders_of
  trail_one q = sym (trail_last k (deepest_at k l)) ∙ ap (λ (hs : List ℕ). get_or hs (length hs - 1) 0) q ∙ trail_last k d

pub runs_longest : (k : K) → k.base < k.stop → Longest k (runs_of k)
unfolding runs_of
runs_longest k b =
    let w = runs_to k k.base k.stop b in
    record {
      chain = w.chain;
      same = λ i l h o. same_trail k l _ (w.same i l h o);
      differ = λ i l m h o p q. w.differ i h (sym (w.same i l (omega arith) o) ∙ trail_one k l _ (q ∙ same_trail k m _ refl) ∙ w.same (suc i) m h p);
    }
