-- src/pairs.rt, structures: result ≡ map_of 4 (structured (view t.now).k p.0)
use Rattle.loops.specs.Laws.Map.{map_start, map_on, map_room, map_end}
use native.Mathlib.Omega.{arith}
use Rattle.summing.proofs.pairs.structures.Goals as goal

pub loop-j-init : goal.loop-j-init
loop-j-init c = map_start

pub overflow_mul-mask : goal.overflow_mul-mask
overflow_mul-mask c = record { fits = omega (arith, map_room c.loop-j.invariant (omega arith)) }

pub structure_bit-requires : goal.structure_bit-requires
structure_bit-requires c = (c.requires, omega (arith, c.loop-j.invariant.within))

pub overflow_add-mask : goal.overflow_add-mask
overflow_add-mask c = record { fits = omega (arith, map_room c.loop-j.invariant (omega arith), c.structure_bit.ensures.1) }

pub loop-j-preserved : goal.loop-j-preserved
loop-j-preserved c = map_on c.loop-j.invariant (omega arith) c.structure_bit.ensures.0

pub returns : goal.returns
returns c = map_end c.loop-j.invariant (omega arith)
