-- src/lib.rt, empty_bit: (result ≡ bit_of (is_none ((view t.now).k.slot p.0 i.0))) × (result ≤ 1)
use mathlib.Core.Path.{refl}
use Rattle.tables.specs.Laws.Search.{entry_some}
use native.Mathlib.Omega.{arith}
use Rattle.searching.proofs.empty_bit.Goals as goal

pub returns-then-f : goal.returns-then-f
returns-then-f c = (rw (c.entry-f.ensures.slot, entry_some, c.if-f.true) refl, omega arith)

pub returns-else-f : goal.returns-else-f
returns-else-f c = (rw (c.entry-f.ensures.slot, entry_some, c.if-f.false) refl, omega arith)
