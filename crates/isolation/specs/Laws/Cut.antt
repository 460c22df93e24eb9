-- Cut keeps a table sound, and each partition holds the lines that it held; its answer is that of its conditions.
use Rattle.std.specs.Prelude.{◌≡◌, false, ℕ, ◌<◌}
use Rattle.tables.specs.State.{Entry, K}
use Rattle.isolation.specs.Laws.Checks.{FreeEntry}
use Rattle.isolation.specs.Ladders.{FreeSlot}

-- what checks 4, 5, 6 (entry), 7 (from, to), 8 (slot) and 18 (plain) say
pub record CutOk (k : K) (s n m : ℕ) (e : Entry) : Type 0 where
  pub entry : FreeEntry k s e
  pub from : e.start < m
  pub to : m < e.stop
  pub slot : FreeSlot k k.current n
  pub plain : e.whole ≡ false
