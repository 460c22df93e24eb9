-- src/lib.rt, given_to: (result.0 ≡ given_in ((view t.now).k.slot p.0 i.0)) × (result.0 < 16)
use borrow.Author.Tests.{not-true, not-false}
use Rattle.tables.specs.Laws.Seen.{given_none, given_some}
use native.Mathlib.Omega.{arith}
use Rattle.searching.proofs.given_to.Goals as goal

pub returns-then-not-f : goal.returns-then-not-f
returns-then-not-f c = (given_none c.entry-f.ensures (not-true _ c.if-not-f.true), omega arith)

pub returns : goal.returns
returns c = (given_some c.entry-f.ensures (not-false _ c.if-not-f.false), c.entry-f.ensures.given_small)
