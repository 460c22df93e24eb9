-- src/kept.rt, zero_pair: sheet.new ≡ pair_put sheet.old p 0 0
use mathlib.Core.Path.{refl, ap, ◌∙◌}
use lib.ListN.{length}
use native.Mathlib.Omega.{arith}
use Rattle.sheetrules.specs.Laws.Bytes.{put_length, pair_put_law}
use Rattle.sheet.proofs.kept.zero_pair.Goals as goal

pub put-requires : goal.put-requires
put-requires c = omega (arith, c.requires.0, c.requires.1)

pub put-requires-2 : goal.put-requires-2
put-requires-2 c = omega (arith, c.requires.0, c.requires.1, ap length c.put.ensures ∙ put_length _ _ _)

pub shape_of-sheet : goal.shape_of-sheet
shape_of-sheet c = ap length c.put-2.ensures ∙ put_length _ _ _ ∙ ap length c.put.ensures ∙ put_length _ _ _

pub returns : goal.returns
returns c = pair_put_law _ _ refl refl (omega arith) (omega arith) c.put.ensures c.put-2.ensures
