-- src/lib.rt, boot_bytes: Lent 0 (boot_on (handed table.old) base end) table.old result table.new
use mathlib.Core.Path.{sym, ◌∙◌}
use lib.ListN.{length-replicate}
use Prim.Native.Nat.{ℕ}
use Rattle.rules.proofs.Laws.Brief.{boot_brief, brief_first}
use Rattle.face.specs.Laws.Face.{boot_root, boot_none, boot_lent, boot_kept}
use native.Mathlib.Omega.{arith}
use Rattle.face.proofs.boot_bytes.Goals as goal

pub refused-requires : goal.refused-requires
refused-requires c = omega arith

pub returns-then-table-ne5128 : goal.returns-then-table-ne5128
returns-then-table-ne5128 c = boot_none _ _ _ c.if-table-ne5128.true c.refused.ensures

pub store_root-requires : goal.store_root-requires
store_root-requires c = (c.if-table-ne5128.false, boot_root _ _ c.boot_table-outcome.ensures c.in-Ok.is)

pub packed-requires : goal.packed-requires
packed-requires c = (omega arith, omega arith, omega (arith, brief_first (boot_brief _ _ _) (sym c.boot_table-outcome.ensures.outcome ∙ c.in-Ok.is)))

pub refused-requires-in-Err : goal.refused-requires-in-Err
refused-requires-in-Err c = omega arith

pub returns-in-Ok : goal.returns-in-Ok
returns-in-Ok c = boot_lent _ _ _ c.if-table-ne5128.false (length-replicate {A = ℕ} 641 0) c.boot_table-outcome.ensures c.in-Ok.is c.packed.ensures c.store_root.ensures

pub returns-in-Err : goal.returns-in-Err
returns-in-Err c = boot_kept _ _ _ c.if-table-ne5128.false (length-replicate {A = ℕ} 641 0) c.boot_table-outcome.ensures c.in-Err.is c.refused-in-Err.ensures
