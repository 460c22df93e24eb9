-- A slot that a call names, unloaded before it is written anew.
use Rattle.std.specs.Prelude.{false, ℕ}
use Rattle.tables.specs.State.{none, Table}
use Rattle.tables.specs.Write.{put_slot}
use Rattle.tables.specs.Kept.{keep_regions}

-- slot s of c is empty, and no region of c names it
abbrev pub unloaded_at : Table → ℕ → ℕ → Table
unloaded_at t c s = keep_regions (put_slot t c s none false) c
