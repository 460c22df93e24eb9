-- How the entries of a partition are packed (service 15): each, in slot order, moves to the lowest usable slot that is empty, and its region follows it.
use Rattle.std.specs.Prelude.{Bool, cond, ◌&&◌, ℕ, ◌+◌, ◌/◌, eqb}
use Rattle.loops.specs.Loops.{carried}
use Rattle.tables.specs.State.{Opt, none, some, Entry, K, Table}
use Rattle.tables.specs.Update.{upd1}
use Rattle.tables.specs.Search.{lowest, is_some, is_none}

-- slot i of p is usable: its structure is present
unfoldable pub usable : K → ℕ → ℕ → Bool
usable k p i = is_some (k.area p (1 + i / 8))

-- the slots and the regions of a partition while its entries move, and how many have moved
pub record Packing : Type 0 where
  pub slot : ℕ → Opt Entry
  pub region : ℕ → Opt ℕ
  pub moved : ℕ

-- a usable slot without an entry
abbrev pub free_in : (ℕ → Bool) → (ℕ → Opt Entry) → ℕ → Bool
free_in can slot j = can j && is_none (slot j)

-- the entry of slot i stands in slot j, and slot i is zero
abbrev pub move_slot : ℕ → ℕ → (ℕ → Opt Entry) → ℕ → Opt Entry
move_slot i j slot = upd1 (upd1 slot j (slot i)) i none

-- a region that names slot i names slot j
unfoldable pub rename : ℕ → ℕ → Opt ℕ → Opt ℕ
rename i j none = none
rename i j (some m) = some (cond (eqb m i) j m)

-- the entry of slot i moves to slot j
abbrev pub move_entry : ℕ → ℕ → Packing → Packing
move_entry i j s = record { slot = move_slot i j s.slot; region = λ r. rename i j (s.region r); moved = s.moved + 1 }

-- .. if there is such a slot
unfoldable pub move_to : ℕ → Packing → Opt ℕ → Packing
move_to i s none = s
move_to i s (some j) = move_entry i j s

-- the turn of slot i: its entry, if it has one, moves to the lowest free slot below i, if there is one
unfoldable pub pack_slot : (ℕ → Bool) → ℕ → Packing → Packing
pack_slot can i s = cond (is_some (s.slot i)) (move_to i s (lowest i (free_in can s.slot))) s

-- p as it stands in t, after n moves
abbrev pub packing_of : Table → ℕ → ℕ → Packing
packing_of t p n = record { slot = t.k.slot p; region = t.region p; moved = n }

-- slots 0 to 31 in turn
unfoldable pub packed : Table → ℕ → Packing
packed t p = carried (pack_slot (usable t.k p)) (packing_of t p 0) 32
