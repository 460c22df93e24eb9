-- src/regions.rt, ulavrepit_region_read: ReadLent rbar rlar entry.old result entry.new
use Rattle.board8.specs.Laws.Regions.{read_lent, read_lent_not}
use borrow.Author.Rules.{rules}
use Rattle.board8.proofs.regions.ulavrepit_region_read.Goals as goal

pub returns-in-Ok : goal.returns-in-Ok
returns-in-Ok c = read_lent _ _ _ c.read_pair.ensures _ c.in-Ok.is

pub returns-in-Err : goal.returns-in-Err
returns-in-Err c = read_lent_not _ _ _ c.read_pair.ensures _ c.from.ensures c.in-Err.is
