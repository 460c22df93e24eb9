-- src/pieces.rt, pieces: PiecesListed board t.now partition slot list.old result list.new
use Rattle.tables.specs.Laws.Top.{top_16}
use Rattle.sound.proofs.Laws.Holders.{wrong_length}
use Rattle.holders.specs.Laws.Listing.{pieces_unsound, pieces_copy}
use Rattle.holders.proofs.pieces.pieces.Goals as goal

pub returns-then-t-ne641 : goal.returns-then-t-ne641
returns-then-t-ne641 c = pieces_unsound _ (wrong_length _ _ c.if-t-ne641.true)

pub copy_in-requires : goal.copy_in-requires
copy_in-requires c = c.if-t-ne641.false

pub pieces_table-requires : goal.pieces_table-requires
pieces_table-requires c = top_16 _

pub returns : goal.returns
returns c = pieces_copy c.copy_in.ensures c.pieces_table.ensures
