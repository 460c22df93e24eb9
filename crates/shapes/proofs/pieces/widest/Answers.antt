-- src/pieces.rt, widest: result ≡ widest start end
use native.Mathlib.Omega.{arith}
use Rattle.shapes.proofs.Laws.Widest.{grow_start, grow_some, grow_on, grow_odd, grow_full}
use Rattle.shapes.proofs.pieces.widest.Goals as goal

pub loop-rest-init : goal.loop-rest-init
loop-rest-init c = grow_start c.requires.0

pub returns-then-room-lines : goal.returns-then-room-lines
returns-then-room-lines c = grow_full c.loop-rest.invariant (omega arith) (omega arith)

pub loop-rest-smaller : goal.loop-rest-smaller
loop-rest-smaller c = omega (arith, grow_some c.loop-rest.invariant)

pub loop-rest-preserved : goal.loop-rest-preserved
loop-rest-preserved c = grow_on c.loop-rest.invariant (omega arith) (omega arith)

pub returns : goal.returns
returns c = grow_odd c.loop-rest.invariant (omega arith) (omega arith)
