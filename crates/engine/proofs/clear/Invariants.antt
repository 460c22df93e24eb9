-- src/lib.rt, clear: masks.new ≡ between a b (mask_struck w) masks.old
use lib.ListN.{length}
use Rattle.loops.specs.Loops.{Filling}
use Rattle.engine.specs.Engine.{mask_struck}
use Rattle.engine.proofs.clear.Given as goal

abbrev pub invariant-loop-mask : goal.invariant-loop-mask
invariant-loop-mask l = Filling (λ k. mask_struck l.w) l.initial.mask-items (length l.initial.mask-items) l.mask-index l.mask-items
