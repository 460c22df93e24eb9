-- The laws of runs leave no choice: only one list meets them.
use Rattle.std.specs.Prelude.{◌≡◌, List, [], ◌∷◌, ℕ, suc, ◌≤◌, ◌<◌}
use Rattle.std.proofs.Common.{ap, ap₂, sym, ◌∙◌, arith}
use Rattle.std.proofs.Math.Decide.{dec_lt}
use Rattle.tables.specs.State.{K}
use Rattle.sound.specs.Holders.{trail}
use Rattle.runs.specs.declared.Run.{Run}
use Rattle.runs.specs.Runs.{deepest_at, run_of, runs_of, nth_run, On, Chain, Longest}
use Rattle.runs.specs.Laws.RunLaws.{tail_chain, run_within, Runs, trail_one, runs_longest}

-- no record goes past m
end_within : {l m : ℕ} (r : Run) (rs : List Run) → Chain l m (r ∷ rs) → r.end.0 ≤ m
end_within r rs c = (run_within c 0 (omega arith)).1

-- the last one ends at m: none comes after it
no_more : {l m : ℕ} (r s : Run) (rs : List Run) → r.end.0 ≡ m → Chain l m (r ∷ s ∷ rs) → ⊥
no_more r s rs e c = omega (arith, e, c.next 0 (omega arith), c.long 1 (omega arith), (run_within c 1 (omega arith)).1)

module _ {k : K} where
  -- the runs after the first
  tail_runs : {l m : ℕ} (r s : Run) (rs : List Run) → Runs k l m (r ∷ s ∷ rs) → Runs k r.end.0 m (s ∷ rs)
  tail_runs r s rs w = record {
    chain = tail_chain r s rs w.chain;
    same = λ i j b. w.same (suc i) j (omega arith);
    differ = λ i b. w.differ (suc i) (omega arith);
  }

  -- the first line of the first run says who its holders are
  head_deepest : {l m : ℕ} (r : Run) (rs : List Run) → Runs k l m (r ∷ rs) → r.deepest.0 ≡ deepest_at k l
  head_deepest {l} r rs w = let f = w.chain.from in sym (w.same 0 l (omega arith) (omega arith, omega (arith, w.chain.long 0 (omega arith))))

  -- two first runs: neither is the shorter
  not_shorter : {l m : ℕ} (r s : Run) (rs ss : List Run) → Runs k l m (r ∷ rs) → Runs k l m (s ∷ ss) → r.end.0 < s.end.0 → ⊥
  not_shorter r s [] ss v w b = omega (arith, v.chain.to, end_within s ss w.chain)
  not_shorter r s (t ∷ rs) ss v w b =
      let c = v.chain in
      let x = v.same 1 r.end.0 (omega arith) (omega (arith, c.next 0 (omega arith)), omega (arith, c.next 0 (omega arith), c.long 1 (omega arith))) in
      let y = w.same 0 r.end.0 (omega arith) (omega (arith, c.from, w.chain.from, c.long 0 (omega arith)), b) in
      v.differ 0 (omega arith) (head_deepest r (t ∷ rs) v ∙ sym (head_deepest s ss w) ∙ sym y ∙ x)

  same_end : {l m : ℕ} (r s : Run) (rs ss : List Run) → Runs k l m (r ∷ rs) → Runs k l m (s ∷ ss) → r.end.0 ≡ s.end.0
  same_end r s rs ss v w = go (dec_lt r.end.0 s.end.0) (dec_lt s.end.0 r.end.0)
    where
      go : Dec (r.end.0 < s.end.0) → Dec (s.end.0 < r.end.0) → r.end.0 ≡ s.end.0
      go (yes b) _ = absurd (not_shorter r s rs ss v w b)
      go (no b) (yes c) = absurd (not_shorter s r ss rs w v c)
      go (no b) (no c) = omega arith

  same_run : {l m : ℕ} (r s : Run) (rs ss : List Run) → Runs k l m (r ∷ rs) → Runs k l m (s ∷ ss) → r ≡ s
  same_run r s rs ss v w =
      ap₂ (λ (a b : ℕ). run_of a b r.deepest.0) (v.chain.from ∙ sym w.chain.from) (same_end r s rs ss v w)
      ∙ ap (run_of s.start.0 s.end.0) (head_deepest r rs v ∙ sym (head_deepest s ss w))

  pub one_list_of_runs : {l m : ℕ} (rs ss : List Run) → Runs k l m rs → Runs k l m ss → rs ≡ ss
  one_list_of_runs [] ss v w = absurd (omega (arith, v.chain.some))
  one_list_of_runs (r ∷ rs) [] v w = absurd (omega (arith, w.chain.some))
  one_list_of_runs (r ∷ []) (s ∷ []) v w = ap (λ (x : Run). x ∷ []) (same_run r s [] [] v w)
  one_list_of_runs (r ∷ []) (s ∷ u ∷ ss) v w = absurd (no_more s u ss (sym (same_end r s [] (u ∷ ss) v w) ∙ v.chain.to) w.chain)
  one_list_of_runs (r ∷ t ∷ rs) (s ∷ []) v w = absurd (no_more r t rs (same_end r s (t ∷ rs) [] v w ∙ w.chain.to) v.chain)
  one_list_of_runs (r ∷ t ∷ rs) (s ∷ u ∷ ss) v w =
      ap₂ (λ (x : Run) xs. x ∷ xs) (same_run r s (t ∷ rs) (u ∷ ss) v w)
      (one_list_of_runs (t ∷ rs) (u ∷ ss) (tail_runs r t rs v) (rw (← same_end r s (t ∷ rs) (u ∷ ss) v w) at (tail_runs s u ss w)))

-- from holders to the deepest of them
longest_runs : {k : K} {rs : List Run} → Longest k rs → Runs k k.base k.stop rs
longest_runs {k} {rs} h = record {
  chain = h.chain;
  same = λ i j b o. trail_one k j (nth_run rs i).deepest.0 (h.same i j b o);
  differ = λ i b q.
      let o : On (nth_run rs i) (nth_run rs i).start.0 = (omega arith, h.chain.long i (omega arith)) in
      let p : On (nth_run rs (suc i)) (nth_run rs (suc i)).start.0 = (omega arith, h.chain.long (suc i) b) in
      h.differ i (nth_run rs i).start.0 (nth_run rs (suc i)).start.0 b o p
      (h.same i (nth_run rs i).start.0 (omega arith) o ∙ ap (λ (p : ℕ). trail k p 15) q ∙ sym (h.same (suc i) (nth_run rs (suc i)).start.0 b p));
}

-- what meets the laws is the runs
pub longest_one : {k : K} {rs : List Run} → k.base < k.stop → Longest k rs → rs ≡ runs_of k
longest_one {k} {rs} b h = one_list_of_runs rs (runs_of k) (longest_runs h) (longest_runs (runs_longest k b))
