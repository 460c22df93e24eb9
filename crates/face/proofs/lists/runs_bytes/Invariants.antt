-- src/lists.rt, runs_bytes: RunsLent board table.now records.old result records.new
use mathlib.Core.Path.{◌≡◌}
use Rattle.runs.specs.Marks.{run_at}
use Rattle.runs.specs.Laws.Stored.{stored_to}
use Rattle.face.proofs.lists.runs_bytes.Given as goal

-- the first i runs are stored
abbrev pub invariant-loop-i : goal.invariant-loop-i
invariant-loop-i l = l.records ≡ stored_to (run_at l.words) l.i l.initial.records
