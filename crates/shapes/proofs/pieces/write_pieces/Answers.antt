-- src/pieces.rt, write_pieces: ShapesListed (pieces_for board start end) list.old result list.new
use Rattle.shapes.proofs.Laws.Listing.{can_list_on, listed_on}
use Rattle.shapes.proofs.pieces.write_pieces.Goals as goal

pub write_shaped-requires : goal.write_shaped-requires
write_shaped-requires c = can_list_on c.in-V7.is _ _ c.requires

pub write_plain-requires : goal.write_plain-requires
write_plain-requires c = can_list_on c.in-V8.is _ _ c.requires

pub returns-in-V7 : goal.returns-in-V7
returns-in-V7 c = listed_on c.in-V7.is _ _ c.write_shaped.ensures

pub returns-in-V8 : goal.returns-in-V8
returns-in-V8 c = listed_on c.in-V8.is _ _ c.write_plain.ensures
