-- src/lib.rt, holders: HoldersListed board t.now line list.old result list.new
use Rattle.tables.specs.Laws.Top.{top_16}
use Rattle.sound.proofs.Laws.Holders.{wrong_length, listed_unsound, listed_copy}
use Rattle.holders.proofs.holders.Goals as goal

pub returns-then-t-ne641 : goal.returns-then-t-ne641
returns-then-t-ne641 c = listed_unsound (wrong_length _ _ c.if-t-ne641.true)

pub copy_in-requires : goal.copy_in-requires
copy_in-requires c = c.if-t-ne641.false

pub holders_table-requires : goal.holders_table-requires
holders_table-requires c = top_16 _

pub returns : goal.returns
returns c = listed_copy c.copy_in.ensures c.holders_table.ensures
