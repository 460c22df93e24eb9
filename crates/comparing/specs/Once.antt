-- The pass that decides S1 to S5 and compares the sheet: what it knows of the slots that it has added up, and of the pairs that it has compared.
use Rattle.std.specs.Prelude.{◌≡◌, Bool, true, List, ℕ, Option, is_some, IfSome}
use Rattle.loops.specs.Loops.{all}
use Rattle.tables.specs.View.{view}
use Rattle.sound.specs.Whole.{Right}
use Rattle.summing.specs.Sums.{Adding}
use Rattle.sheetrules.specs.Bytes.{pair_matches}
use Rattle.summing.specs.declared.sums.Sums.{Sums}

-- The test is told; where it holds, the slots of p from i on are gathered.
pub record SlotsChecked (l : List ℕ) (p i : ℕ) (test : Bool) (x : Option Sums) : Type 0 where
  pub says : is_some x ≡ test
  pub sums : IfSome x (Adding (view l) p i)

-- Of a table that is right, s says whether the pairs below n are its own.
pub record SameTo (b l : List ℕ) (n : ℕ) (s : Bool) : Type 0 where
  pub so : Right (view l) → s ≡ all n (pair_matches b (view l))

-- The test is told; where it holds, the pairs below n are compared.
pub record ComparedTo (b l : List ℕ) (n : ℕ) (test r s : Bool) : Type 0 where
  pub says : r ≡ test
  pub same : r ≡ true → SameTo b l n s
