-- src/lib.rt, reset: masks.new ≡ between a b (λ m. 1) masks.old
use native.Mathlib.Omega.{arith}
use Rattle.engine.specs.Laws.Marking.{part_rewritten}
use Rattle.engine.proofs.reset.Goals as goal

pub returns : goal.returns
returns c =
    let done = c.loop-mask.invariant in
    part_rewritten _ _ _ _ _ c.requires.0 c.requires.1 done.size (λ k h. done.below k (omega arith))
