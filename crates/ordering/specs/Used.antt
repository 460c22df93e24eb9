-- How far the slots of a partition can be in use: up to the end of its last structure. What comes behind need not be looked at.
use Rattle.std.specs.Prelude.{◌≡◌, false, List, ℕ, ◌≤◌, ◌<◌}
use Rattle.tables.specs.State.{none}
use Rattle.tables.specs.View.{view}
use Rattle.settling.specs.Settled.{UsedEnd}

-- the slots of q from m on are empty, and no open bit stands there
pub record Bound (l : List ℕ) (q m : ℕ) : Type 0 where
  pub within : m ≤ 32
  pub empty : (i : ℕ) → m ≤ i → i < 32 → (view l).k.slot q i ≡ none
  pub closed : (i : ℕ) → m ≤ i → i < 32 → (view l).opened q i ≡ false

-- eight slots for each structure up to the last, and what that means
pub record Used (l : List ℕ) (q r : ℕ) : Type 0 where
  pub end : UsedEnd (view l).k q r
  pub bound : Bound l q r
