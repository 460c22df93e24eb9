-- src/pairs.rt, children: ChildrenTo (view t.now).k 16 masks.new
use mathlib.Core.Path.{refl}
use Rattle.summing.specs.Laws.Walk.{children_start, children_at, bit_room, bit_next}
use native.Mathlib.Omega.{arith}
use Rattle.summing.proofs.pairs.children.Goals as goal

pub loop-c-init : goal.loop-c-init
loop-c-init c = (refl, children_start _ c.requires)

pub note_child-requires : goal.note_child-requires
note_child-requires c = (omega arith, c.loop-c.invariant.0, c.loop-c.invariant.1)

pub overflow_mul-bit : goal.overflow_mul-bit
overflow_mul-bit c = record { fits = bit_room c.loop-c.invariant.0 (omega arith) }

pub loop-c-preserved : goal.loop-c-preserved
loop-c-preserved c = (bit_next c.loop-c.c c.loop-c.invariant.0, c.note_child.ensures)

pub returns : goal.returns
returns c = children_at _ _ (omega arith) c.loop-c.invariant.1
