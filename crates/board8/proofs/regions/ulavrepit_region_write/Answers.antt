-- src/regions.rt, ulavrepit_region_write: WriteLent table.now partition slot rbar.old rlar.old result rbar.new rlar.new
use Rattle.board8.specs.Laws.Regions.{write_lent, write_lent_not}
use borrow.Author.Rules.{rules}
use Rattle.board8.proofs.regions.ulavrepit_region_write.Goals as goal

pub returns-in-Ok : goal.returns-in-Ok
returns-in-Ok c = write_lent _ _ _ _ _ c.pair_bytes.ensures _ c.in-Ok.is

pub returns-in-Err : goal.returns-in-Err
returns-in-Err c = write_lent_not _ _ _ _ _ c.pair_bytes.ensures _ c.from.ensures c.in-Err.is
