-- The slots behind the last structure equal no area.
use Rattle.std.specs.Prelude.{◌≡◌, refl, false, List, ℕ, ◌≤◌, ◌<◌}
use Rattle.tables.specs.State.{Area}
use Rattle.tables.specs.View.{view}
use Rattle.sound.specs.Clauses.{has}
use Rattle.ordering.specs.Used.{Bound}
use Rattle.marking.specs.Backing.{backs}

pub backs_empty : {l : List ℕ} {q m : ℕ} (a : Area) → Bound l q m → (i : ℕ) → m ≤ i → i < 32 → backs a ((view l).k.slot q i) ≡ false
unfolding backs has
backs_empty a h i c d = rw (h.empty i c d) refl
