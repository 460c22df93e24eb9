-- The runs, and the pieces of an entry, for the board's firmware: the table comes as bytes, the outcome goes back as one number.
use Rattle.std.specs.Prelude.{◌≡◌, cond, List, ℕ, ◌^◌, ◌<◌, eqb, length, replicate, Ok, Err}
use Rattle.words.specs.Refusals.{number_of}
use Rattle.shapes.specs.declared.Board.{Board}
use Rattle.memory.specs.Bytes.{words_of}
use Rattle.holders.specs.Listing.{pieces_outcome, pieces_words}
use Rattle.runs.specs.declared.Run.{Run}
use Rattle.runlist.specs.declared.Plan.{Plan}
use Rattle.runs.specs.Runs.{runs_outcome, runs_records}
use Rattle.runlist.specs.Listing.{plan_of, marks_in}
use Rattle.face.specs.declared.lists.Ready.{Ready}
use Rattle.face.specs.Face.{handed, result_of}
use Rattle.tables.specs.Outcomes.{Outcome}

abbrev pub Small : Outcome → Type 0
Small (Ok (first, second)) = first < 2 ^ 32
Small (Err why) = number_of why < 2 ^ 8

abbrev pub ready_from : Plan → Ready
ready_from p = record { number = p.number; answer = result_of 0 p.outcome }

abbrev pub ready_of : Board → List ℕ → ℕ → Ready
ready_of b table size = ready_from (plan_of b (handed table) size)

-- the words that are left where a table was loaded, over zeros; another number of bytes loads none
unfoldable pub left_of : Board → List ℕ → List ℕ
left_of b table = cond (eqb (length table) 5128) (marks_in b (words_of table)) (replicate 641 0)

-- what the export promises: its answer, and every record of the list
pub record RunsLent (b : Board) (table : List ℕ) (before : List Run) (r : ℕ) (after : List Run) : Type 0 where
  pub answer : r ≡ result_of 0 (runs_outcome b (handed table) (length before))
  pub records : after ≡ runs_records b (handed table) before

-- what the listing of the pieces of slot s of p promises: its answer, and every word of the list
pub record PiecesLent (b : Board) (table : List ℕ) (p s : ℕ) (before : List ℕ) (r : ℕ) (after : List ℕ) : Type 0 where
  pub answer : r ≡ result_of 0 (pieces_outcome b (handed table) p s (length before))
  pub words : after ≡ pieces_words b (handed table) p s before
