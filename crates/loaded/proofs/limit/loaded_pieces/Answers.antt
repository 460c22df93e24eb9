-- src/limit.rt, loaded_pieces: result ≡ pieces_of board (view t.now) p.0 f
use native.Mathlib.Omega.{arith}
use Rattle.loops.specs.Laws.Count.{sum_start, sum_on, sum_end}
use Rattle.loaded.specs.Limit.{pieces_of}
use Rattle.loaded.specs.Laws.Limit.{counted_small}
use Rattle.loaded.proofs.limit.loaded_pieces.Goals as goal

pub loop-r-init : goal.loop-r-init
unfolding pieces_of
loop-r-init c = sum_start

pub region_pieces-n-requires : goal.region_pieces-n-requires
unfolding pieces_of
region_pieces-n-requires c = (c.requires.in_p, counted_small c.requires _ c.nth-x.ensures)

pub loop-r-preserved : goal.loop-r-preserved
unfolding pieces_of
loop-r-preserved c = sum_on c.loop-r.invariant (omega arith) (rw (← c.nth-x.ensures) c.region_pieces-n.ensures.0) c.region_pieces-n.ensures.1

pub returns : goal.returns
unfolding pieces_of
returns c = sum_end c.loop-r.invariant (omega arith)
