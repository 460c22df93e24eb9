-- src/lib.rt, enter: masks.new ≡ between a b (joined w) masks.old
use lib.ListN.{length}
use Rattle.loops.specs.Loops.{Filling}
use Rattle.engine.specs.Engine.{joined}
use Rattle.engine.proofs.enter.Given as goal

abbrev pub invariant-loop-mask : goal.invariant-loop-mask
invariant-loop-mask l = Filling (λ k. joined l.w) l.initial.mask-items (length l.initial.mask-items) l.mask-index l.mask-items
