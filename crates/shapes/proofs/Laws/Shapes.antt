-- The pieces are the fewest, and the only ones that are as few in rising order; 52 are enough for any block.
use Rattle.std.specs.Prelude.{refl, ℕ, ◌^◌, ◌≤◌, ◌<◌}
use Rattle.std.proofs.Common.{arith}
use Rattle.shapes.specs.Pieces.{pieces, pieces_in, widest, grown, fits}
use Rattle.shapes.specs.Fewest.{Fewest, Shapes}
use Rattle.shapes.proofs.Laws.Greedy.{pieces_greedy}
use Rattle.shapes.proofs.Laws.Clean.{none_fewer}
use Rattle.shapes.proofs.Laws.Cover.{greedy_covers, greedy_joined}
use Rattle.shapes.proofs.Laws.Only.{only}
use Rattle.shapes.proofs.Laws.Halves.{pieces_few, pieces_most}

pub pieces_fewest : (a b : ℕ) → a ≤ b → b < 2 ^ 27 → Fewest a b (pieces a b)
pieces_fewest a b h small =
    let g = pieces_greedy small a h in
    record {
      covers = greedy_covers g;
      joined = greedy_joined g;
      none_fewer = λ cs c. none_fewer c small h;
      only = λ cs c r e. only g cs c r (omega arith);
    }

pub shapes : Shapes
unfolding pieces pieces_in widest grown fits
shapes = record { fewest = pieces_fewest; few = pieces_few; most = pieces_most; printed = refl; one = λ a b. refl }
