-- src/kept.rt, put_again: sheet.new ≡ kept_pair (view t.now) p.0 sheet.old
use Rattle.sheet.specs.Laws.Touched.{few_again, pair_again}
use native.Mathlib.Omega.{arith}
use Rattle.sheet.proofs.kept.put_again.Goals as goal

pub word-requires : goal.word-requires
word-requires c = omega (arith, c.requires.0, c.requires.1)

pub put_pair-requires : goal.put_pair-requires
put_pair-requires c = (c.requires.0, few_again _ c.fields-old.ensures, c.requires.1, c.requires.2)

pub returns : goal.returns
returns c = pair_again _ _ _ (omega arith) c.word.ensures c.fields-old.ensures c.put_pair.ensures
