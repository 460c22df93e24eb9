-- src/lib.rt, holders_bytes: ListLent board table.now line list.old second.old result list.new second.new
use mathlib.Core.Path.{refl, sym, ◌∙◌}
use Rattle.tables.specs.Laws.Top.{top_at}
use Rattle.face.specs.Laws.Face.{holders_first, list_none, list_lent, list_kept}
use native.Mathlib.Omega.{arith}
use Rattle.face.proofs.holders_bytes.Goals as goal

pub refused-requires : goal.refused-requires
refused-requires c = omega arith

pub returns-then-table-ne5128 : goal.returns-then-table-ne5128
returns-then-table-ne5128 c = list_none _ _ c.if-table-ne5128.true c.refused.ensures

pub load-top-requires : goal.load-top-requires
load-top-requires c = (c.if-table-ne5128.false, refl)

pub holders_table-outcome-requires : goal.holders_table-outcome-requires
holders_table-outcome-requires c = top_at c.load-top.ensures.0 c.load-top.ensures.1

pub packed-requires : goal.packed-requires
packed-requires c = (omega arith, omega arith, omega (arith, holders_first _ _ _ _ (sym c.holders_table-outcome.ensures.outcome ∙ c.in-Ok.is)))

pub refused-requires-in-Err : goal.refused-requires-in-Err
refused-requires-in-Err c = omega arith

pub returns-in-Ok : goal.returns-in-Ok
returns-in-Ok c = list_lent _ c.if-table-ne5128.false c.load-top.ensures.0 c.holders_table-outcome.ensures c.in-Ok.is c.packed.ensures refl

pub returns-in-Err : goal.returns-in-Err
returns-in-Err c = list_kept _ c.if-table-ne5128.false c.load-top.ensures.0 c.holders_table-outcome.ensures c.in-Err.is c.refused-in-Err.ensures
