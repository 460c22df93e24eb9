-- src/pieces.rt, write_plain: ShapesListed (pieces_for V8 start end) list.old result list.new
use Rattle.shapes.proofs.Laws.Listing.{plain_listed}
use Rattle.shapes.proofs.pieces.write_plain.Goals as goal

pub returns : goal.returns
returns c = plain_listed _ _ _ c.requires c.piece_word.ensures
