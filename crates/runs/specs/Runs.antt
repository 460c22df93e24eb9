-- The runs of a table: each longest run of lines with the same holders, in rising order; and what is answered and left in the list where they are listed.
use Rattle.std.specs.Prelude.{cond, List, [], ◌∷◌, ◌++◌, ◌≡◌, ℕ, zero, suc, ◌+◌, ◌-◌, ◌≤◌, ◌<◌, eqb, leb, length, drop, get_or, Ok, Err}
use Rattle.shapes.specs.declared.Board.{Board}
use Rattle.tables.specs.State.{K}
use Rattle.tables.specs.View.{view}
use Rattle.sound.specs.Clauses.{sound}
use Rattle.sound.specs.Holders.{deepest, trail, holders_of}
use Rattle.runs.specs.declared.Run.{Run}
use Rattle.tables.specs.Outcomes.{Outcome}
use Rattle.words.specs.declared.Refusal.TheVariants.{NotSound, ShortList}

-- the deepest holder of line l: it says who the holders are, for they are all on the way from it up to the root
abbrev pub deepest_at : K → ℕ → ℕ
deepest_at k l = deepest k l 0 15

abbrev pub run_of : ℕ → ℕ → ℕ → Run
run_of s e d = record { start = record { 0 = s }; end = record { 0 = e }; deepest = record { 0 = d } }

-- line l before the runs that begin after it: it joins the first of them if they have the same holders, and if not it begins a run of its own
unfoldable pub joined_runs : K → ℕ → List Run → List Run
joined_runs k l [] = run_of l (l + 1) (deepest_at k l) ∷ []
joined_runs k l (r ∷ rs) = cond (eqb (deepest_at k l) r.deepest.0) (run_of l r.end.0 r.deepest.0 ∷ rs) (run_of l (l + 1) (deepest_at k l) ∷ r ∷ rs)

-- the runs of the n lines from l on
unfoldable pub runs_from : K → ℕ → ℕ → List Run
runs_from k l zero = []
runs_from k l (suc n) = joined_runs k l (runs_from k (l + 1) n)

unfoldable pub runs_of : K → List Run
runs_of k = runs_from k k.base (k.stop - k.base)

-- ── what they are ──
-- run i of a list
abbrev pub nth_run : List Run → ℕ → Run
nth_run rs i = get_or rs i (run_of 0 0 0)

-- a line of a run
abbrev pub On : Run → ℕ → Type 0
On r l = (r.start.0 ≤ l) × (l < r.end.0)

-- records of the lines l to m in rising order: the first starts at l, the last ends at m, each begins where the one before ended
pub record Chain (l m : ℕ) (rs : List Run) : Type 0 where
  pub some : 0 < length rs
  pub from : (nth_run rs 0).start.0 ≡ l
  pub to : (nth_run rs (length rs - 1)).end.0 ≡ m
  pub next : (i : ℕ) → suc i < length rs → (nth_run rs (suc i)).start.0 ≡ (nth_run rs i).end.0
  pub long : (i : ℕ) → i < length rs → (nth_run rs i).start.0 < (nth_run rs i).end.0

-- The longest runs: every line of a run has that run's holders, and neighbours differ in theirs.
-- `runs_longest` says that the runs are so, `longest_one` that nothing else is.
pub record Longest (k : K) (rs : List Run) : Type 0 where
  pub chain : Chain k.base k.stop rs
  pub same : (i l : ℕ) → i < length rs → On (nth_run rs i) l → holders_of k l ≡ trail k (nth_run rs i).deepest.0 15
  pub differ : (i l m : ℕ) → suc i < length rs → On (nth_run rs i) l → On (nth_run rs (suc i)) m → holders_of k l ≡ holders_of k m → ⊥

-- ── what is answered where they are listed, and the records after it ──
unfoldable pub runs_outcome : Board → List ℕ → ℕ → Outcome
runs_outcome b t size = cond (sound b t) (cond (leb (length (runs_of (view t).k)) size) (Ok (length (runs_of (view t).k), 0)) (Err ShortList)) (Err NotSound)

-- the first records are the runs, the rest stay
abbrev pub runs_over : List Run → List Run → List Run
runs_over rs list = rs ++ drop (length rs) list

unfoldable pub runs_records : Board → List ℕ → List Run → List Run
runs_records b t list = cond (sound b t) (cond (leb (length (runs_of (view t).k)) (length list)) (runs_over (runs_of (view t).k) list) list) list

-- what their one writer promises of the words that it was handed (`handed_listed` of board): its outcome, and every record of the list
pub record RunsListed (b : Board) (t : List ℕ) (before : List Run) (r : Outcome) (after : List Run) : Type 0 where
  pub outcome : r ≡ runs_outcome b t (length before)
  pub records : after ≡ runs_records b t before
