-- src/lib.rt, zero_four: result ≡ zero_four b.now i
use Rattle.loops.specs.Laws.Oring.{or_start, or_on, or_end}
use Rattle.memory.specs.Quads.{zero_four}
use native.Mathlib.Omega.{arith}
use Rattle.memory.proofs.zero_four.Goals as goal

pub loop-q-init : goal.loop-q-init
unfolding zero_four
loop-q-init c = or_start

pub loop-q-preserved : goal.loop-q-preserved
unfolding zero_four
loop-q-preserved c = or_on c.loop-q.invariant (omega arith) c.quad-x.ensures.whole

pub returns : goal.returns
unfolding zero_four
returns c = or_end c.loop-q.invariant (omega arith)
