-- What a caller may rely on who has the runs listed: which answer is given when, and each record after it.
use Rattle.std.specs.Prelude.{◌≡◌, true, ℕ, ◌+◌, ◌-◌, ◌≤◌, ◌<◌, drop, Ok, Err}
use Rattle.std.proofs.Math.Path.{refl, ap}
use Rattle.std.proofs.Common.{◌∙◌, arith, length-append, length-drop, get_or-append-add, get_or-drop}
use mathlib.Core.List.{List}
use Rattle.std.proofs.Math.ListN.{length, get_or-append}
use borrow.Author.Tests.{le-leb, lt-leb}
use Rattle.shapes.specs.declared.Board.{Board}
use Rattle.tables.specs.View.{view}
use Rattle.sound.specs.Clauses.{sound}
use Rattle.sound.proofs.Laws.Whole.{tested}
use Rattle.runs.specs.declared.Run.{Run}
use Rattle.runs.specs.Runs.{run_of, runs_of, nth_run, Longest, runs_over, runs_outcome, runs_records, RunsListed}
use Rattle.runs.specs.Laws.RunLaws.{runs_longest}
use Rattle.runs.specs.Laws.Bound.{runs_bound}
use Rattle.tables.specs.Outcomes.{Outcome}
use Rattle.words.specs.declared.Refusal.{Refusal}
use Rattle.words.specs.declared.Refusal.TheVariants.{ShortList}

-- done: the runs are as 01 says and at most 512, their number is answered, the first records are they, and the rest stay
pub record Told (t : List ℕ) (before : List Run) (r : Outcome) (after : List Run) : Type 0 where
  pub runs : Longest (view t).k (runs_of (view t).k)
  pub few : length (runs_of (view t).k) ≤ 512
  pub answer : r ≡ Ok (length (runs_of (view t).k), 0)
  pub size : length after ≡ length before
  pub first : (i : ℕ) → i < length (runs_of (view t).k) → nth_run after i ≡ nth_run (runs_of (view t).k) i
  pub rest : (i : ℕ) → length (runs_of (view t).k) ≤ i → nth_run after i ≡ nth_run before i

-- refused: every record stays
pub record RunsRefused (why : Refusal) (before : List Run) (r : Outcome) (after : List Run) : Type 0 where
  pub answer : r ≡ Err why
  pub same : after ≡ before

-- of a list with room for all of rs
module _ (rs list : List Run) (b : length rs ≤ length list) where
  over_size : length (runs_over rs list) ≡ length list
  over_size = length-append rs (drop (length rs) list) ∙ omega (arith, length-drop (length rs) list)

  over_first : (i : ℕ) → i < length rs → nth_run (runs_over rs list) i ≡ nth_run rs i
  over_first i h = get_or-append rs (drop (length rs) list) (run_of 0 0 0) i h

  over_rest : (i : ℕ) → length rs ≤ i → nth_run (runs_over rs list) i ≡ nth_run list i
  over_rest i h =
      let e : length rs + (i - length rs) ≡ i = omega arith in
      rw e at (get_or-append-add rs (drop (length rs) list) (i - length rs) (run_of 0 0 0) ∙ get_or-drop (length rs) list (i - length rs) (run_of 0 0 0))

module _ {board : Board} {t : List ℕ} {before after : List Run} {r : Outcome} (h : RunsListed board t before r after) where
  pub short_told : sound board t ≡ true → length before < length (runs_of (view t).k) → RunsRefused ShortList before r after
  unfolding runs_outcome runs_records
  short_told q b =
      let z = lt-leb (length (runs_of (view t).k)) (length before) b in
      record { answer = h.outcome ∙ rw (q, z) refl; same = h.records ∙ rw (q, z) refl }

  pub done_told : sound board t ≡ true → length (runs_of (view t).k) ≤ length before → Told t before r after
  unfolding runs_outcome runs_records
  done_told q b =
      let z = le-leb (length (runs_of (view t).k)) (length before) b in
      let e : after ≡ runs_over (runs_of (view t).k) before = h.records ∙ rw (q, z) refl in
      let c = tested board t q in
      record {
        runs = runs_longest (view t).k c.s1;
        few = runs_bound c;
        answer = h.outcome ∙ rw (q, z) refl;
        size = ap length e ∙ over_size (runs_of (view t).k) before b;
        first = λ i d. ap (λ (l : List Run). nth_run l i) e ∙ over_first (runs_of (view t).k) before b i d;
        rest = λ i d. ap (λ (l : List Run). nth_run l i) e ∙ over_rest (runs_of (view t).k) before b i d;
      }
