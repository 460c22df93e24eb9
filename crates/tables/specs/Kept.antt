-- The regions of a partition: each stays loaded where its slot is open.
use Rattle.std.specs.Prelude.{ℕ}
use Rattle.tables.specs.State.{Opt, Table}
use Rattle.tables.specs.Update.{upd1}
use Rattle.tables.specs.Settle.{keep}

-- the table with the regions f of p
abbrev pub with_regions : Table → ℕ → (ℕ → Opt ℕ) → Table
with_regions t p f = record { k = t.k; opened = t.opened; region = upd1 t.region p f }

-- .. with those of its regions that name an open slot
abbrev pub keep_regions : Table → ℕ → Table
keep_regions t p = with_regions t p (λ r. keep (t.opened p) (t.region p r))
