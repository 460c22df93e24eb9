-- src/lib.rt, keep: words.new ≡ kept numbers.now n words.old
use Rattle.loops.specs.Laws.Rewrite.{fill_start, fill_put}
use Rattle.keeping.specs.Laws.Keeping.{keep_end}
use native.Mathlib.Omega.{arith}
use Rattle.keeping.proofs.keep.Goals as goal

pub loop-i-init : goal.loop-i-init
loop-i-init c = (fill_start c.requires.2, omega arith)

pub loop-i-preserved : goal.loop-i-preserved
loop-i-preserved c = (fill_put c.loop-i.invariant.0 (omega (arith, c.requires.1)) c.wide.ensures, omega arith)

pub returns : goal.returns
returns c = keep_end c.args.numbers.now c.loop-i.invariant.0 c.loop-i.invariant.1 (omega arith)
