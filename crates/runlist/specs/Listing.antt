-- What is settled before a record is written: the outcome, how many runs are written, and the marks that they are read from.
use Rattle.std.specs.Prelude.{cond, List, ℕ, leb, length, Ok, Err}
use Rattle.shapes.specs.declared.Board.{Board}
use Rattle.tables.specs.State.{K}
use Rattle.tables.specs.View.{view}
use Rattle.sound.specs.Clauses.{sound}
use Rattle.runlist.specs.declared.Plan.{Plan}
use Rattle.runs.specs.Runs.{runs_of}
use Rattle.words.specs.declared.Refusal.{Refusal}
use Rattle.words.specs.declared.Refusal.TheVariants.{NotSound, ShortList}
use Rattle.runs.specs.Marks.{marks_over}

-- a refusal: no run is written
abbrev pub refusal : Refusal → Plan
refusal why = record { number = 0; outcome = Err why }

abbrev pub writing_runs : K → Plan
writing_runs k = record { number = length (runs_of k); outcome = Ok (length (runs_of k), 0) }

unfoldable pub plan_of : Board → List ℕ → ℕ → Plan
plan_of b t size = cond (sound b t) (cond (leb (length (runs_of (view t).k)) size) (writing_runs (view t).k) (refusal ShortList)) (refusal NotSound)

-- the marks of a sound table, over its words
unfoldable pub marks_in : Board → List ℕ → List ℕ
marks_in b t = cond (sound b t) (marks_over 641 (view t).k t) t
