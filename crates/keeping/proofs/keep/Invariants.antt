-- src/lib.rt, keep: words.new ≡ kept numbers.now n words.old
use Prim.Native.Nat.{◌+◌, ◌-◌, ◌≤◌}
use lib.ListN.{get_or}
use Rattle.loops.specs.Loops.{Filling}
use Rattle.keeping.proofs.keep.Given as goal

abbrev pub invariant-loop-i : goal.invariant-loop-i
invariant-loop-i l = Filling (λ j x. get_or l.numbers j 0) l.initial.words 641 l.i l.words × (l.i ≤ l.n + 1)

abbrev pub decreases-loop-i : goal.decreases-loop-i
decreases-loop-i l = l.n + 1 - l.i
