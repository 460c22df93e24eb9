-- Every open bit by S9; a region that names a slot now empty or closed is zeroed.
use Rattle.std.specs.Prelude.{Bool, true, false, cond, not, ◌&&◌, ℕ, ◌/◌, ◌%◌, ltb}
use Rattle.loops.specs.Loops.{all}
use Rattle.tables.specs.State.{Opt, none, some, Entry, Area, K, Table}

-- a to b and c to d share a line
unfoldable pub meets : ℕ → ℕ → ℕ → ℕ → Bool
meets a b c d = ltb a b && ltb c d && ltb a d && ltb c b

-- an area, or none, shares no line with a to b
unfoldable pub apart : Opt Area → ℕ → ℕ → Bool
apart none a b = true
apart (some x) a b = not (meets x.lo x.hi a b)

-- no area of the table shares a line with a to b
unfoldable pub clear : (ℕ → ℕ → Opt Area) → ℕ → ℕ → Bool
clear area a b = all 80 (λ n. apart (area (n / 5) (n % 5)) a b)

-- S9: an entry is open exactly if it shares no line with an area
unfoldable pub open_bit : (ℕ → ℕ → Opt Area) → Opt Entry → Bool
open_bit area none = false
open_bit area (some e) = clear area e.start e.stop

unfoldable pub open_at : K → ℕ → ℕ → Bool
open_at k p i = open_bit k.area (k.slot p i)

-- a region stays loaded where its slot is open
unfoldable pub keep : (ℕ → Bool) → Opt ℕ → Opt ℕ
keep o none = none
keep o (some i) = cond (o i) (some i) none

unfoldable pub settle : K → (ℕ → ℕ → Opt ℕ) → Table
settle k region = record { k = k; opened = open_at k; region = λ p r. keep (open_at k p) (region p r) }

abbrev pub settled : Table → Table
settled t = settle t.k t.region
