-- src/pieces.rt, write_shaped: ShapesListed (pieces_for V7 start end) list.old result list.new
use Prim.Native.Nat.{◌-◌}
use Rattle.shapes.proofs.Laws.Listing.{Listing}
use Rattle.shapes.proofs.pieces.write_shaped.Given as goal

abbrev pub invariant-loop-at : goal.invariant-loop-at
invariant-loop-at l = Listing l.start l.end l.initial.list l.n l.at l.list

abbrev pub decreases-loop-at : goal.decreases-loop-at
decreases-loop-at l = l.end - l.at
