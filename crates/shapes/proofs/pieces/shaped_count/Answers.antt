-- src/pieces.rt, shaped_count: result ≡ length (pieces start end)
use native.Mathlib.Omega.{arith}
use Rattle.shapes.proofs.Laws.Zeros.{zeros_out, zeros_few}
use Rattle.shapes.proofs.Laws.Counting.{pieces_count_start, pieces_count_on, pieces_count_end}
use Rattle.shapes.proofs.pieces.shaped_count.Goals as goal

pub loop-a-init : goal.loop-a-init
loop-a-init c = pieces_count_start c.requires

pub overflow_shr-low : goal.overflow_shr-low
overflow_shr-low c = zeros_few c.loop-a.a c.loop-a.b (omega arith) c.loop-a.invariant.small c.common_zeros-z.ensures

pub overflow_shr-high : goal.overflow_shr-high
overflow_shr-high c = zeros_few c.loop-a.a c.loop-a.b (omega arith) c.loop-a.invariant.small c.common_zeros-z.ensures

pub overflow_add-a : goal.overflow_add-a
overflow_add-a c = let t = zeros_out c.loop-a.a c.loop-a.b (omega arith) c.loop-a.invariant.small c.common_zeros-z.ensures in record { fits = omega (arith, t.less, t.small, c.loop-a.invariant.small) }

pub loop-a-smaller : goal.loop-a-smaller
loop-a-smaller c = omega (arith, (zeros_out c.loop-a.a c.loop-a.b (omega arith) c.loop-a.invariant.small c.common_zeros-z.ensures).small)

pub loop-a-preserved : goal.loop-a-preserved
loop-a-preserved c = pieces_count_on c.loop-a.invariant c.requires _ (zeros_out c.loop-a.a c.loop-a.b (omega arith) c.loop-a.invariant.small c.common_zeros-z.ensures)

pub returns : goal.returns
returns c = pieces_count_end c.loop-a.invariant c.requires (omega arith)
