-- The mask of the members of a branch: bit p is whether p is one, and strike takes it where the root is none.
use Rattle.std.specs.Prelude.{◌≡◌, Bool, true, false, ℕ, suc, ◌%◌, ◌≤◌}
use Rattle.std.proofs.Common.{arith}
use Rattle.loops.specs.Loops.{map_from, map_of, names}
use Rattle.loops.specs.Laws.Map.{map_lt}
use Rattle.engine.specs.Laws.Masks.{names_child}

map_even : (f : ℕ → Bool) (n : ℕ) → f 0 ≡ false → map_of (suc n) f % 2 ≡ 0
unfolding map_from
map_even f n q = rw q (omega arith)

-- each member is a child
pub map_members : (f : ℕ → Bool) → f 0 ≡ false → (p : ℕ) → names (map_of 16 f) p ≡ true → (1 ≤ p) × (p ≤ 15)
map_members f q p = names_child (map_of 16 f) p (map_even f 15 q) (map_lt f 0 16)
