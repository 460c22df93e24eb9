-- The word of the regions, moved up by a byte.
use Rattle.std.specs.Prelude.{ℕ, ◌*◌, ◌%◌}

-- its region r is region r + 1 of w, and its last is not loaded
unfoldable pub later_regions : ℕ → ℕ
later_regions w = w % 0x100_0000_0000_0000 * 256
