-- src/lib.rt, put_pair: sheet.new ≡ pair_put sheet.old p.0 (masks_with children (view t.now) p.0) (lines_word (view t.now) p.0)
use mathlib.Core.Path.{ap, ◌∙◌}
use lib.ListN.{length}
use Rattle.sheetrules.specs.Laws.Bytes.{put_length, pair_put_law}
use native.Mathlib.Omega.{arith}
use Rattle.sheet.proofs.put_pair.Goals as goal

pub words_of-x-requires : goal.words_of-x-requires
words_of-x-requires c = (c.requires.0, c.requires.1, c.requires.3)

pub put-requires : goal.put-requires
put-requires c = omega (arith, c.requires.0, c.requires.2)

pub put-requires-2 : goal.put-requires-2
put-requires-2 c = omega (arith, c.requires.0, c.requires.2, ap length c.put.ensures ∙ put_length _ _ _)

pub shape_of-sheet : goal.shape_of-sheet
shape_of-sheet c = ap length c.put-2.ensures ∙ put_length _ _ _ ∙ ap length c.put.ensures ∙ put_length _ _ _

pub returns : goal.returns
returns c = pair_put_law _ _ c.words_of-x.ensures.0 c.words_of-x.ensures.1 (omega arith) (omega arith) c.put.ensures c.put-2.ensures
