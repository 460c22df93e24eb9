-- The code's answers to searches.
use Rattle.std.specs.Prelude.{ℕ, Option, Some, None}
use Rattle.words.specs.declared.Slot.{Slot}
use Rattle.words.specs.declared.Partition.{Partition}
use Rattle.tables.specs.State.{Opt, none, some}
use Rattle.tables.specs.Search.{Looking}
use Rattle.tables.specs.declared.Looked.{Looked}

-- ── a slot ──
unfoldable pub found_of : Opt ℕ → Option Slot
found_of none = None
found_of (some i) = Some (record { 0 = i })

-- .. and how many slot words were looked at
unfoldable pub looked_of : Looking → Looked
looked_of o = record { found = found_of o.slot; count = o.count }

-- ── a partition ──
unfoldable pub which_of : Opt ℕ → Option Partition
which_of none = None
which_of (some n) = Some (record { 0 = n })

-- ── a structure ──
unfoldable pub structure_of : Opt ℕ → Option ℕ
structure_of none = None
structure_of (some j) = Some j
