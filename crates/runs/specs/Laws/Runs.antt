-- Two results are equal: the outcome, and every record.
use Rattle.std.specs.Prelude.{List, ◌≡◌, ℕ}
use Rattle.std.proofs.Common.{sym, ◌∙◌}
use Rattle.shapes.specs.declared.Board.{Board}
use Rattle.runs.specs.declared.Run.{Run}
use Rattle.runs.specs.Runs.{RunsListed}
use Rattle.tables.specs.Outcomes.{Outcome}

-- ── what is answered where they are listed, and the records after it ──
-- two results are equal: the outcome, and every record
pub runs_one : {board : Board} {t : List ℕ} {before : List Run} {r s : Outcome} {a b : List Run} → RunsListed board t before r a → RunsListed board t before s b → (r ≡ s) × (a ≡ b)
runs_one x y = (x.outcome ∙ sym y.outcome, x.records ∙ sym y.records)
