-- src/sums.rt, add_structure: Adding (view t.now) p.0 (8 * j) result
use mathlib.Core.Path.{◌≡◌}
use Prim.Native.Nat.{◌*◌}
use borrow.Author.Tests.{not-true}
use Rattle.tables.specs.Laws.Search.{structure_some}
use Rattle.summing.specs.Laws.Sums.{adding_at, right_ranged, absent_room, add_absent}
use native.Mathlib.Omega.{arith}
use Rattle.summing.proofs.sums.add_structure.Goals as goal

pub overflow_mul-result : goal.overflow_mul-result
overflow_mul-result c = record { fits = absent_room _ c.requires.3 }

pub returns-then-not-s : goal.returns-then-not-s
returns-then-not-s c = let s = c.structure-s in add_absent _ c.requires.3 c.requires.2 (rw (s.ensures.area, structure_some) (not-true s.result.present c.if-not-s.true))

pub loop-i-init : goal.loop-i-init
loop-i-init c = (omega arith, c.requires.3)

pub add_slot-sums-requires : goal.add_slot-sums-requires
add_slot-sums-requires c = let asked = c.requires in (asked.0, adding_at _ _ (omega arith) c.loop-i.invariant.1, right_ranged asked.2 _ _)

pub loop-i-preserved : goal.loop-i-preserved
loop-i-preserved c = (omega arith, c.add_slot-sums.ensures)

pub returns : goal.returns
returns c = let z : c.loop-i.i ≡ 8 * c.args.j = omega (arith, c.loop-i.invariant.0) in rw z at c.loop-i.invariant.1
