-- The runs as marks, one for each: of its first line and its deepest holder. After the last stands one of the end of memory.
use Rattle.std.specs.Prelude.{◌≡◌, cond, List, ℕ, ◌+◌, ◌<◌, eqb, ltb, length, get_or, set}
use Rattle.loops.specs.Loops.{tab}
use Rattle.words.specs.Kinds.{mark_for}
use Rattle.keeping.specs.Keeping.{NumberAt}
use Rattle.tables.specs.State.{K}
use Rattle.runs.specs.declared.Run.{Run}
use Rattle.runs.specs.Runs.{run_of, runs_of, nth_run}
use Rattle.runs.specs.Ways.{low_at, who_at}

-- run i: from its mark to the next
abbrev pub run_at : List ℕ → ℕ → Run
run_at w i = run_of (low_at w i) (low_at w (i + 1)) (who_at w i)

-- the marks of the runs, over the numbers that stood there; what is past them stays
unfoldable pub mark_of : K → List ℕ → ℕ → ℕ
mark_of k b i =
    cond (ltb i (length (runs_of k))) (mark_for (nth_run (runs_of k) i).start.0 (nth_run (runs_of k) i).deepest.0)
    (cond (eqb i (length (runs_of k))) (mark_for k.stop 0) (get_or b i 0))

-- .. over m numbers
abbrev pub marks_over : ℕ → K → List ℕ → List ℕ
marks_over m k b = tab m (mark_of k b)

-- two marks, at i and behind it, are kept in words
pub record MarksAt (w : List ℕ) (i : ℕ) : Type 0 where
  pub below : i < 512
  pub here : NumberAt w i
  pub next : NumberAt w (i + 1)

-- ── the loop ──
-- what the code does with a piece that begins at l and has deepest holder d
pub record Marked (w : List ℕ) (n last l d r : ℕ) (v : List ℕ) : Type 0 where
  pub number : r ≡ cond (eqb d last) n (n + 1)
  pub marks : v ≡ cond (eqb d last) w (set w n (mark_for l d))
