-- src/lib.rt, zero_forty: result ≡ zero_forty b.now i
use mathlib.Core.Path.{◌≡◌, refl, sym}
use Prim.Native.Nat.{◌+◌, ◌*◌}
use Rattle.loops.specs.Laws.Every.{all_zero, all_more}
use Rattle.memory.specs.Quads.{zero_four, zero_forty}
use native.Mathlib.Omega.{arith}
use Rattle.memory.proofs.zero_forty.Goals as goal

pub loop-g-init : goal.loop-g-init
loop-g-init c = sym (all_zero (λ g. zero_four c.args.b.now (c.args.i + 32 * g)))

pub loop-g-preserved : goal.loop-g-preserved
loop-g-preserved c = rw (all_more c.loop-g.g (λ g. zero_four c.args.b.now (c.args.i + 32 * g)), c.loop-g.invariant, c.zero_four-zero.ensures) refl

pub returns : goal.returns
unfolding zero_forty
returns c = let ten : c.loop-g.g ≡ 10 = omega arith in rw (← ten) c.loop-g.invariant
