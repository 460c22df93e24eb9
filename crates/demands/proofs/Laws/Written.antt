-- What holders and runs answer and write, over bytes: of any table, and of one whose ledger is known.
use Rattle.std.specs.Prelude.{◌≡◌, refl, true, ℕ, ◌^◌, ◌≤◌, ◌<◌}
use Rattle.std.proofs.Math.Path.{ap}
use Rattle.std.proofs.Common.{sym, ◌∙◌, arith}
use mathlib.Core.List.{List}
use Rattle.std.proofs.Math.Decide.{dec_lt}
use Rattle.std.proofs.Math.ListN.{length}
use Rattle.loops.specs.Loops.{count}
use Rattle.shapes.specs.declared.Board.{Board}
use Rattle.tables.specs.State.{K}
use Rattle.tables.specs.View.{view}
use Rattle.tables.specs.Lines.{Holds}
use Rattle.tables.specs.WayUp.{names_over}
use Rattle.sound.specs.Sound.{Sound}
use Rattle.sound.specs.Laws.Core.{sound_core}
use Rattle.sound.specs.Holders.{holders_of, holders_outcome, HoldersListed}
use Rattle.rules.specs.Rules.{Effect}
use Rattle.rules.specs.Ran.{outcome_of}
use Rattle.runs.specs.declared.Run.{Run}
use Rattle.runs.specs.Runs.{runs_of, runs_outcome, runs_over, RunsListed}
use Rattle.runs.specs.Laws.RunLaws.{runs_longest}
use Rattle.ledger.specs.Ledger.{Ledger}
use Rattle.ledger.specs.Lists.{Lists}
use Rattle.ledger.specs.Laws.Lists.{one_list, no_siblings}
use Rattle.ledger.specs.Theorem.{Demand3}
use Rattle.ledger.specs.Laws.LedgerRuns.{RunsDemand}
use Rattle.face.specs.Face.{handed, result_of, second_after, ListLent}
use Rattle.face.specs.Lists.{RunsLent}
use Rattle.demands.specs.Demands.{refusal_in, first_in, Accepted, Answered, holders_ladder, LongestRuns, TableRuns, runs_ladder, HoldersWritten, RunsWritten, Tells}
use Rattle.demands.specs.Laws.Lowest.{past, none_left_law}
use Rattle.demands.specs.Laws.Rising.{holders_rises, runs_rises}
use Rattle.demands.specs.Laws.Results.{reads_back, result_answered, accepted_done}
use Rattle.demands.proofs.Laws.Listings.{runs_are, runs_only, table_lists, table_runs, table_runs_only, holders_looked, leaves, holders_result, holders_exact, holders_by, holders_done, runs_result, runs_exact, runs_by, runs_done}

nobody_calls : 0 < 2 ^ 8
nobody_calls = omega arith

-- ── holders ──
module _ {board : Board} {b : List ℕ} {m : ℕ} {list : List ℕ} {s r : ℕ} {after : List ℕ} {s' : ℕ} (h : ListLent board b m list s r after s') where
  abbrev k : K
  k = (view (handed b)).k

  abbrev result : Effect
  result = holders_result board (handed b) m list

  word : r ≡ result_of 0 (outcome_of result)
  word = h.result ∙ ap (result_of 0) (holders_by board (handed b) m list).0

  bytes_by : after ≡ leaves list (names_over (holders_of k m) list) result
  bytes_by = h.bytes ∙ (holders_by board (handed b) m list).1

  second_by : s' ≡ second_after s (outcome_of result)
  second_by = h.second ∙ ap (second_after s) (holders_by board (handed b) m list).0

  pub holders_answered : Answered (holders_ladder board (handed b) m (length list)) r ((after ≡ list) × (s' ≡ s))
  unfolding second_after outcome_of
  holders_answered =
      result_answered (holders_rises board (handed b) m (length list)) nobody_calls result (holders_exact board (handed b) m list) word
      (λ n z. (
        bytes_by ∙ ap (leaves list (names_over (holders_of k m) list)) z,
        second_by ∙ ap (λ (x : Effect). second_after s (outcome_of x)) z,
      ))

  -- done: the number and every byte, where the names are those of a listing
  pub holders_told : Accepted r → {Holder : ℕ → Type 0} {up : ℕ → ℕ} → (Sound board (handed b) → k.base ≤ m → m < k.stop → Lists Holder up (holders_of k m))
      → HoldersWritten (handed b) m Holder up list (first_in r) s' after
  unfolding second_after outcome_of
  holders_told q lists =
      let (w, t, z) = accepted_done (holders_rises board (handed b) m (length list)) nobody_calls result (holders_exact board (handed b) m list) word q in
      let (f, (i, j), v, y) = holders_done board (handed b) m list z in
      record {
        names = holders_of k m;
        listing = lists f i j;
        only = λ hs x. one_list x (lists f i j);
        number_is = v;
        bytes = bytes_by ∙ ap (leaves list (names_over (holders_of k m) list)) z;
        looked = rw (second_by ∙ ap (λ (x : Effect). second_after s (outcome_of x)) z ∙ y) (holders_looked (handed b) m);
      }

  pub holders_written : Accepted r → HoldersWritten (handed b) m (λ p. Holds k.slot p m) k.parent list (first_in r) s' after
  holders_written q = holders_told q (λ f. table_lists f m)

-- ── runs ──
module _ {board : Board} {b : List ℕ} {list : List Run} {r : ℕ} {after : List Run} (h : RunsLent board b list r after) where
  abbrev runs_k : K
  runs_k = (view (handed b)).k

  abbrev runs_result_law : Effect
  runs_result_law = runs_result board (handed b) list

  runs_word : r ≡ result_of 0 (outcome_of runs_result_law)
  runs_word = h.answer ∙ ap (result_of 0) (runs_by board (handed b) list).0

  records_by : after ≡ leaves list (runs_over (runs_of runs_k) list) runs_result_law
  records_by = h.records ∙ (runs_by board (handed b) list).1

  pub runs_answered : Answered (runs_ladder board (handed b) (length list)) r (after ≡ list)
  runs_answered =
      result_answered (runs_rises board (handed b) (length list)) nobody_calls runs_result_law (runs_exact board (handed b) list) runs_word
      (λ n z. records_by ∙ ap (leaves list (runs_over (runs_of runs_k) list)) z)

  -- done: the number and every record, where these are the runs and no others
  pub runs_told : Accepted r → {Runs : List Run → Type 0} → (Sound board (handed b) → Runs (runs_of runs_k) × ((rs : List Run) → Runs rs → rs ≡ runs_of runs_k))
      → RunsWritten Runs list (first_in r) after
  runs_told q runs =
      let (w, t, z) = accepted_done (runs_rises board (handed b) (length list)) nobody_calls runs_result_law (runs_exact board (handed b) list) runs_word q in
      let (f, i, v) = runs_done board (handed b) list z in
      record {
        runs = runs_of runs_k;
        longest = (runs f).0;
        only = (runs f).1;
        number_is = v;
        fits = i;
        records = records_by ∙ ap (leaves list (runs_over (runs_of runs_k) list)) z;
      }

  pub runs_written : Accepted r → RunsWritten (TableRuns (handed b)) list (first_in r) after
  runs_written q = runs_told q (λ f. (table_runs f, table_runs_only f))

-- ── of a sound table whose ledger is known ──
module _ {board : Board} {base end : ℕ} {g : Ledger} (d : List ℕ) (f : Sound board (handed d)) (known : Demand3 board base end g (handed d)) (runs-known : RunsDemand board base end g (handed d)) where
  abbrev kd : K
  kd = (view (handed d)).k

  abbrev Named : ℕ → ℕ → Type 0
  Named p l = g.stands p l ≡ true

  -- the ledger's memory is the table's
  base_is : kd.base ≡ base
  base_is = sym (runs_longest kd (sound_core (handed d) f).s1).chain.from ∙ runs-known.runs.chain.from

  end_is : kd.stop ≡ end
  end_is = sym (runs_longest kd (sound_core (handed d) f).s1).chain.to ∙ runs-known.runs.chain.to

  lists : (l : ℕ) → kd.base ≤ l → l < kd.stop → Lists (λ p. Named p l) g.parent (holders_of kd l)
  lists l a b = known.listing l (rw base_is at a) (rw end_is at b)

  ledger_runs : LongestRuns Named g.parent base end (runs_of kd)
  ledger_runs = rw (base_is, end_is) at (runs_are kd (sound_core (handed d) f).s1 lists)

  ledger_runs_only : (rs : List Run) → LongestRuns Named g.parent base end rs → rs ≡ runs_of kd
  ledger_runs_only = rw (base_is, end_is) at (runs_only kd (sound_core (handed d) f).s1 lists)

  -- holders, as the ledger's own theorem reads it
  listed : {m : ℕ} {list : List ℕ} {s r : ℕ} {after : List ℕ} {s' : ℕ} → ListLent board d m list s r after s'
      → HoldersListed board (handed d) m list (holders_outcome board (handed d) m (length list)) after
  listed h = record { outcome = refl; bytes = h.bytes }

  short : {list : List Run} {r : ℕ} {after : List Run} → RunsLent board d list r after → (Accepted r → ⊥)
      → (refusal_in r ≡ 17) × (after ≡ list) × ((rs : List Run) × LongestRuns Named g.parent base end rs × (length list < length rs))
  unfolding result_of
  short {list} {r} {after} h n = go (dec_lt (length list) (length (runs_of kd)))
    where
      go : Dec (length list < length (runs_of kd))
          → (refusal_in r ≡ 17) × (after ≡ list) × ((rs : List Run) × LongestRuns Named g.parent base end rs × (length list < length rs))
      go (yes b) =
          let x : RunsListed board (handed d) list (runs_outcome board (handed d) (length list)) after = record { outcome = refl; records = h.records } in
          let y = runs-known.short x b in
          let e = h.answer ∙ ap (result_of 0) y.answer in
          (rw e (reads_back 17 0 0 (omega arith) (omega arith)).0, y.same, (runs_of kd, ledger_runs, b))
      go (no b) = absurd (n ((runs_answered h).accepts.1 (λ i x. none_left_law (past (λ rs w. rw (table_runs_only f rs w) (omega arith)) (past f x)))))

  pub tells : Tells board base end g d
  unfolding result_of second_after
  tells = record {
    holders = λ {m} {r = r} h a b c.
        let (o, _) = known.answer a b c (listed h) in
        let e = h.result ∙ ap (result_of 0) o in
        let (i, _, j) = reads_back 0 0 (count 16 (λ p. g.stands p m)) (omega arith) (omega arith) in
        let q : Accepted r = rw e i in
        (q, holders_told h q (λ _ _ _. known.listing m a b), rw e j);
    siblings = λ m p q a b u i j.
        let (x, y) = known.nobody p m i in
        let w = known.listing m x y in
        no_siblings w p q a b u ((w.exactly p).1 i) ((w.exactly q).1 j);
    nobody = known.nobody;
    outside = λ {s = s} h n.
        let (o, e) = known.outside n (listed h) in
        (rw (h.result ∙ ap (result_of 0) o) (reads_back 7 0 0 (omega arith) (omega arith)).0, e, h.second ∙ ap (second_after s) o);
    runs = λ h q. runs_told h q (λ _. (ledger_runs, ledger_runs_only));
    short = short;
  }
