-- Each run starts where an entry starts: so there are at most 512, one for each slot.
use Rattle.std.specs.Prelude.{◌≡◌, refl, Bool, true, List, length}
use Rattle.std.proofs.Common.{sym, ◌∙◌, arith, eq-eqb, ne_eqb}
use Prim.Native.Nat.{ℕ, zero, suc, ◌+◌, ◌-◌, ◌*◌, ◌≤◌, ◌<◌}
use Rattle.std.proofs.Math.Decide.{dec_lt, ℕ_discrete}
use Rattle.loops.specs.Loops.{count}
use Rattle.loops.specs.Laws.Count.{count_le, without, without_other, count_without}
use Rattle.tables.specs.State.{some, Entry, K}
use Rattle.tables.specs.Laws.State.{same_at}
use Rattle.tables.specs.Lines.{Holds}
use Rattle.sound.specs.Core.{Core}
use Rattle.sound.specs.Holders.{heir, deepest}
use Rattle.runs.specs.declared.Run.{Run}
use Rattle.runs.specs.Runs.{deepest_at, runs_of, nth_run}
use Rattle.runs.specs.Laws.RunLaws.{run_within, Runs, runs_to}
use Rattle.sound.proofs.Laws.Found.{in_table, heir_is, heir_holds}

-- an entry starts at line l
pub record Starts (k : K) (l : ℕ) : Type 0 where
  pub p : ℕ
  pub i : ℕ
  pub e : Entry
  pub at : k.slot p i ≡ some e
  pub start : e.start ≡ l

-- n numbers below m that f holds of, no two the same
few : (n m : ℕ) (f : ℕ → Bool) (g : (i : ℕ) → i < n → ℕ) → ((i : ℕ) (b : i < n) → (g i b < m) × (f (g i b) ≡ true)) → ((i j : ℕ) (b : i < n) (c : j < n) → i < j → g i b ≡ g j c → ⊥) → n ≤ count m f
few zero m f g h d = omega arith
few (suc n) m f g h d =
    let last : n < suc n = omega arith in
    let up : (i : ℕ) → i < n → i < suc n = λ i b. omega arith in
    let x = g n last in
    omega (
      arith,
      count_without f x m (h n last).0 (h n last).1,
      few n m (without f x) (λ i b. g i (up i b))
          (λ i b. ((h i (up i b)).0, without_other f x (g i (up i b)) (d i n (up i b) last b) ∙ (h i (up i b)).1))
          (λ i j b c. d i j (up i b) (up j c)),
    )

module _ {k : K} (h : Core k) where
  -- where the descents of a line and of the next part, an entry starts
  parts : (n p l : ℕ) → Holds k.slot p l → Holds k.slot p (l + 1) → (deepest k l p n ≡ deepest k (l + 1) p n → ⊥) → Starts k (l + 1)
  unfolding deepest
  parts zero p l u v d = absurd (d refl)
  parts (suc n) p l u v d = go (ℕ_discrete u.i v.i) (parts n)
    where
      other : (u.i ≡ v.i → ⊥) → Dec (v.e.start < l + 1) → Starts k (l + 1)
      other z (yes b) = absurd (z (h.s6 p u.i v.i u.e v.e l u.at v.at u.holds (record { from = omega arith; to = omega (arith, v.holds.to) })))
      other z (no b) = record { p = p; i = v.i; e = v.e; at = v.at; start = omega (arith, v.holds.from) }

      on : heir k l p ≡ heir k (l + 1) p → Dec (heir k l p ≡ 0)
          → ((q m : ℕ) → Holds k.slot q m → Holds k.slot q (m + 1) → (deepest k m q n ≡ deepest k (m + 1) q n → ⊥) → Starts k (m + 1)) → Starts k (l + 1)
      on x (yes z) f = absurd (d (rw (← x, eq-eqb (heir k l p) 0 z) refl))
      on x (no z) f =
          f (heir k l p) l (heir_holds h u z).0 (rw (← x) at (heir_holds h v (λ y. z (x ∙ y))).0)
          (λ y. d (rw (← x, ne_eqb (heir k l p) 0 z) y))

      go : Dec (u.i ≡ v.i)
          → ((q m : ℕ) → Holds k.slot q m → Holds k.slot q (m + 1) → (deepest k m q n ≡ deepest k (m + 1) q n → ⊥) → Starts k (m + 1)) → Starts k (l + 1)
      go (no z) f = other z (dec_lt v.e.start (l + 1))
      go (yes z) f =
          let s = same_at (k.slot p v.i) (rw z at u.at) v.at in
          on (heir_is h u ∙ s.given ∙ sym (heir_is h v)) (ℕ_discrete (heir k l p) 0) f

  -- the first line of memory starts an entry of the root
  pub base_starts : Starts k k.base
  base_starts =
      let u = (h.s7_root_law k.base).1 (omega arith, h.s1) in
      let r = h.s5_range 0 u.i u.e u.at in
      let w = (h.s7_root_law u.e.start).0 (record { i = u.i; e = u.e; at = u.at; holds = record { from = omega arith; to = r } }) in
      record { p = 0; i = u.i; e = u.e; at = u.at; start = omega (arith, u.holds.from, w.0) }

  -- .. and so does each line whose deepest holder is not that of the line before
  pub other_starts : (l : ℕ) → k.base ≤ l → l + 1 < k.stop → (deepest_at k l ≡ deepest_at k (l + 1) → ⊥) → Starts k (l + 1)
  other_starts l b c d = parts 15 0 l ((h.s7_root_law l).1 (b, omega arith)) ((h.s7_root_law (l + 1)).1 (omega arith, c)) d

  -- of lines that rise, an entry starting at each, there are no more than slots
  module _ {n : ℕ} {s : ℕ → ℕ} (start : (i : ℕ) → i < n → Starts k (s i)) (up : (i : ℕ) → suc i < n → s i < s (suc i)) where
    rising : (d i : ℕ) → i + suc d < n → s i < s (i + suc d)
    rising zero i b = let e : i + 1 ≡ suc i = omega arith in rw e (up i (omega arith))
    rising (suc d) i b =
        let e : i + suc (suc d) ≡ suc i + suc d = omega arith in
        rw e (omega (arith, rising d (suc i) (omega arith), up i (omega arith)))

    -- two of them have two slots
    apart : (i j : ℕ) → i < j → j < n → (u : Starts k (s i)) (v : Starts k (s j)) → u.p ≡ v.p → u.i ≡ v.i → ⊥
    apart i j b c u v p q =
        let e : i + suc (j - i - 1) ≡ j = omega arith in
        let r = rising (j - i - 1) i (omega arith) in
        let z = same_at (k.slot v.p v.i) (rw (p, q) at u.at) v.at in
        omega (arith, rw e at r, z.start, u.start, v.start)

    pub starts_few : n ≤ 512
    starts_few =
        let r : (i : ℕ) (b : i < n) → ((start i b).p < 16) × ((start i b).i < 32) = λ i b. in_table h (start i b).p (start i b).i (start i b).e (start i b).at in
        omega (
          arith,
          count_le 512 (λ _. true),
          few n 512 (λ _. true) (λ i b. 32 * (start i b).p + (start i b).i) (λ i b. (omega (arith, r i b), refl))
              (λ i j b c l q. apart i j l c (start i b) (start j c) (omega (arith, q, r i b, r j c)) (omega (arith, q, r i b, r j c))),
        )

  -- the runs' first lines are such
  module _ {rs : List Run} (w : Runs k k.base k.stop rs) where
    run_starts : (i : ℕ) → i < length rs → Starts k (nth_run rs i).start.0
    run_starts zero b = rw w.chain.from base_starts
    run_starts (suc i) b = go ((nth_run rs i).end.0 - 1) (omega (arith, w.chain.next i b, w.chain.long i (omega arith)))
      where
        go : (l : ℕ) → (nth_run rs (suc i)).start.0 ≡ l + 1 → Starts k (nth_run rs (suc i)).start.0
        go l q =
            let c = w.chain in
            let n = c.next i b in
            let x = c.long i (omega arith) in
            let y = c.long (suc i) b in
            let s = (run_within c i (omega arith)).0 in
            let t = (run_within c (suc i) b).1 in
            rw q (other_starts l (omega arith) (omega arith) (λ z. w.differ i b (sym (w.same i l (omega arith) (omega arith, omega arith)) ∙ z ∙ w.same (suc i) (l + 1) b (omega arith, omega arith))))

pub runs_bound : {k : K} → Core k → length (runs_of k) ≤ 512
unfolding runs_of
runs_bound {k} h =
    let w = runs_to k k.base k.stop h.s1 in
    starts_few h (run_starts h w) (λ i b. omega (arith, w.chain.next i b, w.chain.long i (omega arith)))
