-- The verdict clause by clause: what each stage of the code finds.
use Rattle.std.specs.Prelude.{◌≡◌, Bool, true, List, ℕ, ◌≤◌, ◌<◌, Option, Some, None}
use Rattle.std.specs.Bool.{beq}
use Rattle.loops.specs.Loops.{seek}
use Rattle.shapes.specs.declared.Board.{Board}
use Rattle.tables.specs.State.{Table}
use Rattle.tables.specs.View.{view}
use Rattle.tables.specs.Search.{present}
use Rattle.tables.specs.Settle.{open_at}
use Rattle.settling.specs.declared.areas.Areas.{Areas}
use Rattle.settling.specs.Areas.{AreasOf}
use Rattle.sound.specs.Sound.{Lower}
use Rattle.sound.specs.Clauses.{s7}
use Rattle.ordering.specs.Order.{Orders}
use Rattle.decide.specs.Local.{grants_open}
use Rattle.verdict.specs.Verdict.{fails_at}

-- the lowest of the first n tests that fails, if one does
unfoldable pub lowest_of : Board → List ℕ → ℕ → Option ℕ
lowest_of b l n = seek (fails_at b l) (λ m. Some m) None n

-- clause n is looked at: those below it hold at every partition
pub record Reached (b : Board) (l : List ℕ) (n : ℕ) : Type 0 where
  pub from : 1 ≤ n
  pub to : n < 12
  pub lower : Lower b l n

-- S1 to S6 hold; the entries of each partition stand in order in o, and the areas of the table in g
pub record Sorted (b : Board) (l o c : List ℕ) (g : Areas) : Type 0 where
  pub reached : Reached b l 7
  pub orders : Orders (view l).k o c
  pub areas : AreasOf (view l).k g

-- ── S9 and S11 of one partition ──
-- slot i of p is open exactly as S9 says
unfoldable pub open_slot : Table → ℕ → ℕ → Bool
open_slot t p i = beq (t.opened p i) (open_at t.k p i)

-- what the walk that decides S11 asks too is known: S7, and S9 of what p was given
pub record Before11 (t : Table) (p : ℕ) : Type 0 where
  pub s7 : s7 t p ≡ true
  pub opens : present t.k p ≡ true → grants_open t p ≡ true
