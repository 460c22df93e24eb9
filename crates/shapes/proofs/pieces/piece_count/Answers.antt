-- src/pieces.rt, piece_count: (result ≡ length (pieces_for board start end)) × (result ≤ 52)
use Rattle.shapes.proofs.Laws.Counting.{pieces_counted}
use Rattle.shapes.proofs.pieces.piece_count.Goals as goal

pub returns-in-V7 : goal.returns-in-V7
returns-in-V7 c = pieces_counted _ _ c.in-V7.is c.requires c.shaped_count.ensures
