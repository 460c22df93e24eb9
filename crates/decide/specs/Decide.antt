-- The decision in code: what is known before the pass over the partitions, and what it answers.
use Rattle.std.specs.Prelude.{◌≡◌, Bool, true, List, ℕ}
use Rattle.loops.specs.Loops.{all}
use Rattle.shapes.specs.declared.Board.{Board}
use Rattle.tables.specs.View.{view}
use Rattle.sound.specs.Clauses.{s6, sound}
use Rattle.shape.specs.AtOnce.{Shaped}
use Rattle.ordering.specs.Order.{Orders}
use Rattle.marking.specs.Marking.{MarkedTo}

-- ── the parts of the decision, in the order of the code ──
-- what is known before the partitions are looked at one by one
pub record CanDecide (l o c m : List ℕ) : Type 0 where
  pub shaped : Shaped l
  pub s6 : all 16 (s6 (view l).k) ≡ true
  pub orders : Orders (view l).k o c
  pub marked : MarkedTo (view l).k 80 m

-- what it says, and how it leaves the entries
pub record Decided (b : Board) (l : List ℕ) (r : Bool) (o c : List ℕ) : Type 0 where
  pub says : r ≡ sound b l
  pub orders : r ≡ true → Orders (view l).k o c
