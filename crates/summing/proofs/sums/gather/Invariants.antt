-- src/sums.rt, gather: Adding (view t.now) p.0 0 result
use Prim.Native.Nat.{◌*◌}
use Rattle.tables.specs.View.{view}
use Rattle.summing.specs.Sums.{Adding}
use Rattle.summing.proofs.sums.gather.Given as goal

abbrev pub invariant-loop-j : goal.invariant-loop-j
invariant-loop-j l = Adding (view l.t) l.p.0 (8 * l.j) l.x
