-- src/lib.rt, put_pairs: sheet.new ≡ sheet_bytes (sheet_of (view t.now))
use mathlib.Core.Path.{refl, sym, ◌∙◌}
use Rattle.tables.specs.View.{view}
use Rattle.sheetrules.specs.Sheet.{sheet_of}
use Rattle.sheetrules.specs.Laws.Bytes.{pair_sheet, sheet_start, sheet_on, sheet_end}
use Rattle.summing.specs.Laws.Written.{children_few, with_children}
use native.Mathlib.Omega.{arith}
use Rattle.sheet.proofs.put_pairs.Goals as goal

pub loop-p-init : goal.loop-p-init
loop-p-init c = sheet_start (sheet_of (view c.args.t.now)) c.requires.1

pub mask_of-children-requires : goal.mask_of-children-requires
mask_of-children-requires c = (omega arith, c.requires.0.size)

pub put_pair-requires : goal.put_pair-requires
put_pair-requires c = (omega arith, children_few _ _ (c.mask_of-children.ensures ∙ c.requires.0.at _ (omega arith)), c.loop-p.invariant.size, c.requires.2)

pub loop-p-preserved : goal.loop-p-preserved
loop-p-preserved c = sheet_on (sheet_of (view c.args.t.now)) _ c.loop-p.invariant (omega arith) (pair_sheet _ _ (omega arith) _ (with_children c.requires.2 _ (c.mask_of-children.ensures ∙ c.requires.0.at _ (omega arith))) refl c.put_pair.ensures)

pub shape_of-sheet : goal.shape_of-sheet
shape_of-sheet c = c.loop-p.invariant.size ∙ sym c.requires.1

pub returns : goal.returns
returns c = sheet_end (sheet_of (view c.args.t.now)) c.loop-p.invariant (omega arith)
