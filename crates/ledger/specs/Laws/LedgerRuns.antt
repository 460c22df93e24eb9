-- DEMAND 3, of runs: they are the longest runs of lines for which the same names stand in the ledger, and their number is the ledger's.
use Rattle.std.specs.Prelude.{◌≡◌, List, ℕ, suc, ◌≤◌, ◌<◌, length}
use Rattle.shapes.specs.declared.Board.{Board}
use Rattle.tables.specs.View.{view}
use Rattle.sound.specs.Holders.{trail, holders_of}
use Rattle.runs.specs.declared.Run.{Run}
use Rattle.runs.specs.Runs.{runs_of, nth_run, On, Chain, RunsListed}
use Rattle.runs.specs.Laws.Meaning.{Told, RunsRefused}
use Rattle.ledger.specs.Ledger.{Ledger}
use Rattle.tables.specs.Outcomes.{Outcome}
use Rattle.words.specs.declared.Refusal.TheVariants.{ShortList}

-- the same names stand for two lines
abbrev pub SameNames : Ledger → ℕ → ℕ → Type 0
SameNames g l m = (p : ℕ) → g.stands p l ≡ g.stands p m

-- the longest runs of lines of base to end with the same names, in rising order
pub record LedgerRuns (base end : ℕ) (g : Ledger) (rs : List Run) : Type 0 where
  pub chain : Chain base end rs
  pub same : (i l m : ℕ) → i < length rs → On (nth_run rs i) l → On (nth_run rs i) m → SameNames g l m
  pub differ : (i l m : ℕ) → suc i < length rs → On (nth_run rs i) l → On (nth_run rs (suc i)) m → SameNames g l m → ⊥

-- What demand 3 says of runs, of a ledger g and the words t of a table of base to end. RunsListed is what the writer of runs promises.
pub record RunsDemand (board : Board) (base end : ℕ) (g : Ledger) (t : List ℕ) : Type 0 where
  -- the runs are the ledger's, and name the last of the listing
  pub runs : LedgerRuns base end g (runs_of (view t).k)
  pub deepest : (i l : ℕ) → i < length (runs_of (view t).k) → On (nth_run (runs_of (view t).k) i) l → holders_of (view t).k l ≡ trail (view t).k (nth_run (runs_of (view t).k) i).deepest.0 15
  -- the ledger has one number of runs
  pub number : (rs : List Run) → LedgerRuns base end g rs → length rs ≡ length (runs_of (view t).k)
  -- runs is done with it, and the first records become the runs; or the list is too short
  pub answer : {before after : List Run} {r : Outcome} → RunsListed board t before r after → length (runs_of (view t).k) ≤ length before → Told t before r after
  pub short : {before after : List Run} {r : Outcome} → RunsListed board t before r after → length before < length (runs_of (view t).k) → RunsRefused ShortList before r after
