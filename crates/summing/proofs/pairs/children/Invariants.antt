-- src/pairs.rt, children: ChildrenTo (view t.now).k 16 masks.new
use mathlib.Core.Path.{◌≡◌}
use Prim.Native.Nat.{◌^◌}
use Rattle.tables.specs.View.{view}
use Rattle.summing.specs.Sums.{ChildrenTo}
use Rattle.summing.proofs.pairs.children.Given as goal

abbrev pub invariant-loop-c : goal.invariant-loop-c
invariant-loop-c l = (l.bit ≡ 2 ^ l.c) × ChildrenTo (view l.t).k l.c l.masks
