-- Holders and runs: each number of theirs exactly under its condition, for every table; and what they list.
use Rattle.std.specs.Prelude.{◌≡◌, Bool, cond, ◌↔◌, ℕ, suc, ◌-◌, ◌≤◌, ◌<◌, leb, Ok, Err}
use Rattle.std.proofs.Math.Path.{refl}
use Rattle.std.proofs.Common.{sym, ◌∙◌, arith, leb-true, le-leb}
use Rattle.std.proofs.Math.Bool.{true, false, false≢true}
use mathlib.Core.List.{List}
use mathlib.Core.Logic.Iff
use Rattle.std.proofs.Math.ListN.{length}
use Rattle.shapes.specs.declared.Board.{Board}
use Rattle.tables.specs.State.{Opt, none, some, K, Table}
use Rattle.tables.specs.View.{view}
use Rattle.tables.specs.Lines.{Holds}
use Rattle.tables.specs.Search.{lowest, holds_at, looked_at, look_for}
use Rattle.tables.specs.Laws.Search.{lowest_some, lowest_none}
use Rattle.tables.specs.WayUp.{names_over}
use Rattle.tables.specs.Outcomes.{Outcome}
use Rattle.sound.specs.Sound.{Sound}
use Rattle.sound.specs.Laws.Core.{sound_core}
use Rattle.sound.specs.Clauses.{sound}
use Rattle.sound.specs.Laws.Means.{le_means, lt_means, and_means}
use Rattle.sound.proofs.Laws.List.{sound_means}
use Rattle.sound.proofs.Laws.MeansEntries.{holds_means}
use Rattle.sound.proofs.Laws.Looks.{looks_few}
use Rattle.sound.specs.Holders.{holders_of, looks_of, in_memory, holders_outcome, holders_bytes}
use Rattle.rules.specs.Rules.{Effect, done, refused, check}
use Rattle.rules.specs.Ran.{outcome_of}
use Rattle.isolation.specs.Ladder.{Answers, finished, Ends}
use Rattle.isolation.specs.Laws.Ladder.{ends, check_answers}
use Rattle.runs.specs.declared.Run.{Run}
use Rattle.runs.specs.Runs.{deepest_at, runs_of, runs_outcome, runs_records, nth_run as run, runs_over}
use Rattle.runs.specs.Laws.RunLaws.{runs_longest, trail_last, same_trail, line_within}
use Rattle.runs.specs.Laws.OneList.{longest_one}
use Rattle.ledger.specs.Lists.{Lists, nth_name}
use Rattle.ledger.specs.Laws.Lists.{lists_same, one_list}
use Rattle.ledger.specs.Laws.Listing.{holders_list}
use Rattle.demands.specs.Demands.{holders_ladder, LooksAt, found, not_found, LooksSummed, LongestRuns, TableRuns, runs_ladder}
use Rattle.words.specs.declared.Refusal.TheVariants.{NotSound, WrongLine, ShortList}

-- ── the runs, where the holders' lists are known ──
module _ {Holder : ℕ → ℕ → Type 0} {up : ℕ → ℕ} (k : K) (range : k.base < k.stop)
    (lists : (l : ℕ) → k.base ≤ l → l < k.stop → Lists (λ p. Holder p l) up (holders_of k l)) where
  abbrev Inside : ℕ → Type 0
  Inside l = (k.base ≤ l) × (l < k.stop)

  -- two lines have the same list exactly if they have the same holders
  alike : (l m : ℕ) → Inside l → Inside m → holders_of k l ≡ holders_of k m → (p : ℕ) → Holder p l ↔ Holder p m
  alike l m a b q p = Iff.trans (rw q at (Iff.symm ((lists l a.0 a.1).exactly p))) ((lists m b.0 b.1).exactly p)

  one : (l m : ℕ) → Inside l → Inside m → ((p : ℕ) → Holder p l ↔ Holder p m) → holders_of k l ≡ holders_of k m
  one l m a b f = one_list (lists_same f (lists l a.0 a.1)) (lists m b.0 b.1)

  -- the last holder is the deepest
  last : (l : ℕ) → nth_name (holders_of k l) (length (holders_of k l) - 1) ≡ deepest_at k l
  last l = rw (same_trail k l (deepest_at k l) refl) (trail_last k (deepest_at k l))

  pub runs_are : LongestRuns Holder up k.base k.stop (runs_of k)
  runs_are =
      let w = runs_longest k range in
      let c = w.chain in
      record {
        chain = c;
        same = λ i l m b o p. alike l m (line_within c i l b o) (line_within c i m b p) (w.same i l b o ∙ sym (w.same i m b p));
        differ = λ i l m b o p q. w.differ i l m b o p (one l m (line_within c i l (omega arith) o) (line_within c (suc i) m b p) q);
        deepest = λ i l b o.
            let (x, y) = line_within c i l b o in
            (holders_of k l, lists l x y, rw (w.same i l b o) (trail_last k (run (runs_of k) i).deepest.0));
      }

  pub runs_only : (rs : List Run) → LongestRuns Holder up k.base k.stop rs → rs ≡ runs_of k
  runs_only rs w =
      let c = w.chain in
      longest_one range (record {
        chain = c;
        same = λ i l b o.
            let (x, y) = line_within c i l b o in
            let (hs, u, v) = w.deepest i l b o in
            let e = one_list u (lists l x y) in
            same_trail k l (run rs i).deepest.0 (sym (last l) ∙ rw e at v);
        differ = λ i l m b o p q. w.differ i l m b o p (alike l m (line_within c i l (omega arith) o) (line_within c (suc i) m b p) q);
      })

-- .. and those of a sound table are, by the entries that hold a line
module _ {board : Board} {t : List ℕ} (s : Sound board t) where
  pub table_lists : (l : ℕ) → (view t).k.base ≤ l → l < (view t).k.stop → Lists (λ p. Holds (view t).k.slot p l) (view t).k.parent (holders_of (view t).k l)
  table_lists l a b = holders_list (sound_core t s) (a, b)

  pub table_runs : TableRuns t (runs_of (view t).k)
  table_runs = runs_are (view t).k (sound_core t s).s1 table_lists

  pub table_runs_only : (rs : List Run) → TableRuns t rs → rs ≡ runs_of (view t).k
  table_runs_only = runs_only (view t).k (sound_core t s).s1 table_lists

-- ── how far the listing of holders looks ──
module _ (t : List ℕ) (m : ℕ) where
  looks_at : (p : ℕ) → LooksAt t m p (look_for (view t).k m p).count
  unfolding looked_at
  looks_at p = go (lowest 32 (holds_at (view t).k p m)) refl
    where
      go : (o : Opt ℕ) → lowest 32 (holds_at (view t).k p m) ≡ o → LooksAt t m p (looked_at o)
      go none q = not_found (λ i b x. false≢true (sym (lowest_none 32 (holds_at (view t).k p m) q i b) ∙ (holds_means m ((view t).k.slot p i)).1 x))
      go (some i) q =
          let f = lowest_some 32 (holds_at (view t).k p m) i q in
          found i (record {
            below = f.below;
            here = (holds_means m ((view t).k.slot p i)).0 f.holds;
            before = λ j b x. false≢true (sym (f.before j b) ∙ (holds_means m ((view t).k.slot p j)).1 x);
          })

  pub holders_looked : LooksSummed t m (holders_of (view t).k m) (looks_of (view t).k m)
  unfolding looks_of
  holders_looked = record { words = λ p. (look_for (view t).k m p).count; looks = looks_at; sum_is = refl; few = looks_few (view t).k m }

-- what a list is afterwards: written when done, as before when refused
abbrev pub leaves : {A : Type 0} → A → A → Effect → A
leaves before written (done v w t) = written
leaves before written (refused why) = before

-- ── holders: 1, 7, 17 ──
module _ (board : Board) (t : List ℕ) (m : ℕ) (list : List ℕ) where
  abbrev pub holders_result : Effect
  holders_result =
      check NotSound (sound board t)
      (check WrongLine (in_memory (view t).k m)
      (check ShortList (leb 16 (length list))
      (done (length (holders_of (view t).k m)) (looks_of (view t).k m) (view t))))

  pub holders_exact : Answers (holders_ladder board t m (length list)) holders_result
  unfolding in_memory
  holders_exact =
      check_answers (sound_means board t) λ _.
      check_answers (and_means (le_means (view t).k.base m) (lt_means m (view t).k.stop)) λ _.
      check_answers (le_means 16 (length list)) λ _.
      finished

  pub holders_by : (holders_outcome board t m (length list) ≡ outcome_of holders_result)
      × (holders_bytes board t m list ≡ leaves list (names_over (holders_of (view t).k m) list) holders_result)
  unfolding holders_outcome holders_bytes check outcome_of
  holders_by = go (sound board t) (in_memory (view t).k m) (leb 16 (length list)) (length (holders_of (view t).k m)) (looks_of (view t).k m) (names_over (holders_of (view t).k m) list)
    where
      go : (x y z : Bool) (n s : ℕ) (l : List ℕ)
          → (cond {A = Outcome} x (cond y (cond z (Ok (n, s)) (Err ShortList)) (Err WrongLine)) (Err NotSound) ≡ outcome_of (check NotSound x (check WrongLine y (check ShortList z (done n s (view t))))))
          × (cond x (cond y (cond z l list) list) list ≡ leaves list l (check NotSound x (check WrongLine y (check ShortList z (done n s (view t))))))
      go true true true n s l = (refl, refl)
      go true true false n s l = (refl, refl)
      go true false z n s l = (refl, refl)
      go false y z n s l = (refl, refl)

  -- what is done was done of a sound table, with the number of holders and the sum of their searches
  pub holders_done : {v w : ℕ} {t' : Table} → holders_result ≡ done v w t'
      → Sound board t × (((view t).k.base ≤ m) × (m < (view t).k.stop)) × (v ≡ length (holders_of (view t).k m)) × (w ≡ looks_of (view t).k m)
  unfolding Ends
  holders_done = ends (λ v w _. Sound board t × (((view t).k.base ≤ m) × (m < (view t).k.stop)) × (v ≡ length (holders_of (view t).k m)) × (w ≡ looks_of (view t).k m)) holders_exact
      (λ s i _. (s, i, refl, refl))

-- ── runs: 1, 17 ──
module _ (board : Board) (t : List ℕ) (list : List Run) where
  abbrev pub runs_result : Effect
  runs_result =
      check NotSound (sound board t)
      (check ShortList (leb (length (runs_of (view t).k)) (length list))
      (done (length (runs_of (view t).k)) 0 (view t)))

  pub runs_exact : Answers (runs_ladder board t (length list)) runs_result
  runs_exact =
      check_answers (sound_means board t) λ s.
      check_answers (
        λ q rs w. rw (table_runs_only s rs w) (leb-true (length (runs_of (view t).k)) (length list) q),
        λ f. le-leb (length (runs_of (view t).k)) (length list) (f (runs_of (view t).k) (table_runs s)),
      ) λ _.
      finished

  pub runs_by : (runs_outcome board t (length list) ≡ outcome_of runs_result) × (runs_records board t list ≡ leaves list (runs_over (runs_of (view t).k) list) runs_result)
  unfolding runs_outcome runs_records check outcome_of
  runs_by = go (sound board t) (leb (length (runs_of (view t).k)) (length list)) (length (runs_of (view t).k)) (runs_over (runs_of (view t).k) list)
    where
      go : (x y : Bool) (n : ℕ) (l : List Run)
          → (cond {A = Outcome} x (cond y (Ok (n, 0)) (Err ShortList)) (Err NotSound) ≡ outcome_of (check NotSound x (check ShortList y (done n 0 (view t)))))
          × (cond x (cond y l list) list ≡ leaves list l (check NotSound x (check ShortList y (done n 0 (view t)))))
      go true true n l = (refl, refl)
      go true false n l = (refl, refl)
      go false y n l = (refl, refl)

  pub runs_done : {v w : ℕ} {t' : Table} → runs_result ≡ done v w t' → Sound board t × (length (runs_of (view t).k) ≤ length list) × (v ≡ length (runs_of (view t).k))
  unfolding Ends
  runs_done = ends (λ v w _. Sound board t × (length (runs_of (view t).k) ≤ length list) × (v ≡ length (runs_of (view t).k))) runs_exact
      (λ s f. (s, f (runs_of (view t).k) (table_runs s), refl))
