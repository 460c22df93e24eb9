-- src/sums.rt, add_structure: Adding (view t.now) p.0 (8 * j) result
use Prim.Native.Nat.{◌*◌, ◌≤◌}
use Rattle.tables.specs.View.{view}
use Rattle.summing.specs.Sums.{Adding}
use Rattle.summing.proofs.sums.add_structure.Given as goal

abbrev pub invariant-loop-i : goal.invariant-loop-i
invariant-loop-i l = (8 * l.j ≤ l.i) × Adding (view l.t) l.p.0 l.i l.sums
