-- What the theory of the services keeps of a sound table.
use Rattle.std.specs.Prelude.{◌≡◌, false, ℕ, ◌^◌, ◌≤◌, ◌<◌}
use Rattle.shapes.specs.declared.Board.{Board}
use Rattle.tables.specs.State.{none, some, Table}
use Rattle.sound.specs.Limit.{loaded_pieces}
use Rattle.sound.specs.Sound.{S9, Loaded}
use Rattle.sound.specs.Core.{Core}

-- all but its words and the limit of pieces: its end is a line, what is empty is closed, and it has eight regions
pub record Right (t : Table) : Type 0 where
  pub core : Core t.k
  pub stop : t.k.stop < 2 ^ 27
  pub closed : (p i : ℕ) → t.k.slot p i ≡ none → t.opened p i ≡ false
  pub eight : (p r i : ℕ) → t.region p r ≡ some i → r < 8
  pub s9 : (p : ℕ) → S9 t p
  pub s10 : (p : ℕ) → Loaded t p

-- .. and the limit, which depends on the board
pub record Few (b : Board) (t : Table) : Type 0 where
  pub at : (p : ℕ) → loaded_pieces b t.k.slot t.region p ≤ 8
