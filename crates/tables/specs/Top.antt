-- From which record on a table has zero words alone: later passes stop there.
use Rattle.std.specs.Prelude.{◌≡◌, true, List, ℕ, ◌≤◌, ◌<◌}
use Rattle.tables.specs.ZeroRecord.{zero_record}

-- all records from n on are zero
pub record Top (l : List ℕ) (n : ℕ) : Type 0 where
  pub within : n ≤ 16
  pub zero : (p : ℕ) → n ≤ p → p < 16 → zero_record l p ≡ true
