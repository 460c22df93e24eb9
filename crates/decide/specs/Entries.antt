-- S11 of the root a slot at a time, and S7's part that the order of the entries decides.
use Rattle.std.specs.Prelude.{Bool, cond, ◌&&◌, ℕ, eqb}
use Rattle.tables.specs.State.{K}
use Rattle.sound.specs.Clauses.{when, s7_root, s7_inside, s7_cover, full}

-- S7 of p but for what it says of given and whole entries: its entries lie each inside one range that it was given, and cover those
unfoldable pub exactly : K → ℕ → Bool
exactly k p = cond (eqb p 0) (s7_root k p) (s7_inside k p && s7_cover k p)

-- slot i of p has all rights, or no entry
unfoldable pub full_slot : K → ℕ → ℕ → Bool
full_slot k p i = when (λ e. full e.rights) (k.slot p i)
