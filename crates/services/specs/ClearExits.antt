-- Clear out in code: the branch of a partition is cleared, its own record first and then the branches of its children, one by one.
use Rattle.std.specs.Prelude.{◌≡◌, Bool, List, ℕ, eqb}
use Rattle.loops.specs.Loops.{count}
use Rattle.tables.specs.State.{Table}
use Rattle.tables.specs.View.{view}
use Rattle.tables.specs.Encode.{Is}
use Rattle.rules.specs.Rules.{branch}
use Rattle.services.specs.Zeroed.{zero_records}

-- who is in the branch of p, by the words of a table
abbrev pub branch_of : Table → ℕ → ℕ → Bool
branch_of t p = branch t.k.parent p

-- the branch of p is cleared: so many partitions, and every word afterwards
pub record Cleared (before : List ℕ) (p n : ℕ) (after : List ℕ) : Type 0 where
  pub number : n ≡ count 16 (branch_of (view before) p)
  pub is : Is after (zero_records (view before) (branch_of (view before) p))

-- the record of p is zero
pub record Zero (l : List ℕ) (p : ℕ) : Type 0 where
  pub is : Is l (zero_records (view l) (λ q. eqb q p))
