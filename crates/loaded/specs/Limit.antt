-- The pieces of what eight regions name, as the code adds them up.
use Rattle.std.specs.Prelude.{ℕ, ◌<◌}
use Rattle.loops.specs.Loops.{sum}
use Rattle.words.specs.declared.regions_word.RegionsFields.{RegionsFields}
use Rattle.shapes.specs.declared.Board.{Board}
use Rattle.tables.specs.State.{Table}
use Rattle.tables.specs.View.{nth_region, named}
use Rattle.sound.specs.Limit.{region_pieces}

-- the regions f of partition p name slots
pub record CanCount (p : ℕ) (f : RegionsFields) : Type 0 where
  pub in_p : p < 16
  pub slots : (r : ℕ) → (nth_region f r).slot.0 < 32

unfoldable pub pieces_of : Board → Table → ℕ → RegionsFields → ℕ
pieces_of b t p f = sum 8 (λ r. region_pieces b (t.k.slot p) (named (nth_region f r)))
