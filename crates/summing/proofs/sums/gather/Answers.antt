-- src/sums.rt, gather: Adding (view t.now) p.0 0 result
use Rattle.summing.specs.Laws.Sums.{adding_start, adding_at}
use native.Mathlib.Omega.{arith}
use Rattle.summing.proofs.sums.gather.Goals as goal

pub loop-j-init : goal.loop-j-init
loop-j-init c = adding_start

pub add_structure-x-requires : goal.add_structure-x-requires
add_structure-x-requires c = (c.requires.0, omega arith, c.requires.1, adding_at _ _ (omega arith) c.loop-j.invariant)

pub loop-j-preserved : goal.loop-j-preserved
loop-j-preserved c = c.add_structure-x.ensures

pub returns : goal.returns
returns c = adding_at _ _ (omega arith) c.loop-j.invariant
