-- Where the walk stands among each partition's entries, which are in order by rising start: all before that place end by the line.
use Rattle.std.specs.Prelude.{◌≡◌, List, ℕ, ◌≤◌, ◌<◌, length, get_or}
use Rattle.tables.specs.State.{K}
use Rattle.settling.specs.Rising.{high_of}
use Rattle.ordering.specs.Order.{lines_at, placed, Orders}

-- o has the entries of every present partition in order, so many of each
pub record AllInOrder (k : K) (o : List ℕ) : Type 0 where
  pub counts : List ℕ
  pub orders : Orders k o counts

-- the entries of p before place a end by line l
pub record EndsBy (k : K) (o : List ℕ) (p l a : ℕ) : Type 0 where
  pub past : (b : ℕ) → b < a → high_of (lines_at k p (placed o p b)) ≤ l

-- .. before its place in s, of every p
pub record Passed (k : K) (o : List ℕ) (l : ℕ) (s : List ℕ) : Type 0 where
  pub size : length s ≡ 16
  pub at : (p : ℕ) → p < 16 → EndsBy k o p l (get_or s p 0)
