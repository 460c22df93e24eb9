-- src/lib.rt, boot_sheet_bytes: BootSheetLent table.old sheet.old base end result table.new sheet.new
use mathlib.Core.Path.{sym, ◌∙◌}
use lib.ListN.{length-replicate}
use Prim.Native.Nat.{ℕ}
use Rattle.rules.proofs.Laws.Brief.{boot_brief, brief_first}
use Rattle.face.specs.Laws.Face.{boot_root}
use Rattle.facesheet.specs.Laws.Sheets.{booted_right, boot_short, boot_no_sheet, boot_both, boot_neither}
use native.Mathlib.Omega.{arith}
use borrow.Author.Rules.{rules}
use Rattle.facesheet.proofs.boot_sheet_bytes.Goals as goal

pub refused-requires : goal.refused-requires
refused-requires c = omega arith

pub returns-then-table-ne5128 : goal.returns-then-table-ne5128
returns-then-table-ne5128 c = boot_short _ _ _ _ c.if-table-ne5128.true c.refused.ensures

pub refused-requires-then-sheet-ne256 : goal.refused-requires-then-sheet-ne256
refused-requires-then-sheet-ne256 c = omega arith

pub returns-then-sheet-ne256 : goal.returns-then-sheet-ne256
returns-then-sheet-ne256 c = boot_no_sheet _ _ _ _ c.if-table-ne5128.false c.if-sheet-ne256.true c.refused-then-sheet-ne256.ensures

pub store_root-requires : goal.store_root-requires
store_root-requires c = (c.if-table-ne5128.false, boot_root _ _ c.boot_table-outcome.ensures c.in-Ok.is)

pub write_sheet-requires : goal.write_sheet-requires
write_sheet-requires c = (c.if-sheet-ne256.false, booted_right _ _ c.boot_table-outcome.ensures c.in-Ok.is)

pub packed-requires : goal.packed-requires
packed-requires c = (omega arith, omega arith, omega (arith, brief_first (boot_brief _ _ _) (sym c.boot_table-outcome.ensures.outcome ∙ c.in-Ok.is)))

pub refused-requires-in-Err : goal.refused-requires-in-Err
refused-requires-in-Err c = omega arith

pub returns-in-Ok : goal.returns-in-Ok
returns-in-Ok c = boot_both _ _ _ _ c.if-table-ne5128.false c.if-sheet-ne256.false (length-replicate {A = ℕ} 641 0) c.boot_table-outcome.ensures c.in-Ok.is c.packed.ensures c.store_root.ensures c.write_sheet.ensures

pub returns-in-Err : goal.returns-in-Err
returns-in-Err c = boot_neither _ _ _ _ c.if-table-ne5128.false c.if-sheet-ne256.false (length-replicate {A = ℕ} 641 0) c.boot_table-outcome.ensures c.in-Err.is c.refused-in-Err.ensures
