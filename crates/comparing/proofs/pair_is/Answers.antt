-- src/lib.rt, pair_is: result ≡ pair_is sheet.now p.0 masks lines
use Rattle.sheetrules.specs.Laws.Bytes.{pair_differs, pair_second}
use native.Mathlib.Omega.{arith}
use Rattle.comparing.proofs.pair_is.Goals as goal

pub word-requires : goal.word-requires
word-requires c = omega (arith, c.requires.0, c.requires.1)

pub returns-then-word-masks : goal.returns-then-word-masks
returns-then-word-masks c = pair_differs _ _ _ _ (omega arith) c.word.ensures c.if-word-masks.true

pub word-requires-2 : goal.word-requires-2
word-requires-2 c = omega (arith, c.requires.0, c.requires.1)

pub returns : goal.returns
returns c = pair_second _ _ _ _ (omega arith) c.word.ensures (omega arith) c.if-word-masks.false c.word-2.ensures
