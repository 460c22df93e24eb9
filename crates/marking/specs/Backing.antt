-- S8, an area at a time: the not-given entry that equals it.
use Rattle.std.specs.Prelude.{Bool, ◌&&◌, ℕ, eqb}
use Rattle.tables.specs.State.{Opt, Entry, Area}
use Rattle.sound.specs.Clauses.{has}

-- the lines from a to b
abbrev pub area_between : ℕ → ℕ → Area
area_between a b = record { lo = a; hi = b }

-- a not-given entry that equals the area
unfoldable pub backs : Area → Opt Entry → Bool
backs a = has (λ e. eqb e.given 0 && eqb e.start a.lo && eqb e.stop a.hi)
