-- Records set to zero, one or many: what the services that remove partitions do to a table.
use Rattle.std.specs.Prelude.{Bool, false, ℕ}
use Rattle.tables.specs.State.{none, Table}
use Rattle.rules.specs.Rules.{records_zero}

-- the records of m are zero
abbrev pub zero_records : Table → (ℕ → Bool) → Table
zero_records t m = record {
  k = record {
    base = t.k.base;
    stop = t.k.stop;
    current = t.k.current;
    parent = records_zero m 0 t.k.parent;
    area = records_zero m (λ j. none) t.k.area;
    slot = records_zero m (λ i. none) t.k.slot;
  };
  opened = records_zero m (λ i. false) t.opened;
  region = records_zero m (λ r. none) t.region;
}
