-- src/lib.rt, reset: masks.new ≡ between a b (λ m. 1) masks.old
use lib.ListN.{length}
use Rattle.loops.specs.Loops.{Filling}
use Rattle.engine.proofs.reset.Given as goal

abbrev pub invariant-loop-mask : goal.invariant-loop-mask
invariant-loop-mask l = Filling (λ k m. 1) l.initial.mask-items (length l.initial.mask-items) l.mask-index l.mask-items
