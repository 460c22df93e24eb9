-- Words of a machine: each is below 2^64.
use Rattle.std.specs.Prelude.{List, get_or, ℕ, ◌^◌, ◌<◌}

pub record Words (l : List ℕ) : Type 0 where
  pub small : (n : ℕ) → get_or l n 0 < 2 ^ 64
