-- src/pairs.rt, structure_bit: (result ≡ bit_of (structured (view t.now).k p.0 j)) × (result ≤ 1)
use mathlib.Core.Path.{refl}
use Rattle.tables.specs.Laws.Search.{structure_some}
use native.Mathlib.Omega.{arith}
use Rattle.summing.proofs.pairs.structure_bit.Goals as goal

pub returns-then-s : goal.returns-then-s
returns-then-s c = (rw (c.structure-s.ensures.area, structure_some, c.if-s.true) refl, omega arith)

pub returns-else-s : goal.returns-else-s
returns-else-s c = (rw (c.structure-s.ensures.area, structure_some, c.if-s.false) refl, omega arith)
