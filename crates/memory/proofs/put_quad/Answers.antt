-- src/lib.rt, put_quad: b.new ≡ put_quad b.old i x
use lib.ListN.{length-set}
use native.Mathlib.Omega.{arith}
use Rattle.memory.proofs.put_quad.Goals as goal

pub bounds-b-i-2 : goal.bounds-b-i-2
bounds-b-i-2 c = simp length-set (omega arith)

pub bounds-b-i-3 : goal.bounds-b-i-3
bounds-b-i-3 c = simp length-set (omega arith)

pub bounds-b-i-4 : goal.bounds-b-i-4
bounds-b-i-4 c = simp length-set (omega arith)
