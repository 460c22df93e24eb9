-- src/limit.rt, region_pieces: (result ≡ region_pieces board ((view t.now).k.slot p.0) (named x)) × (result ≤ 52)
use native.Mathlib.Omega.{arith}
use borrow.Author.Tests.{not-true, not-false}
use Rattle.loaded.specs.Laws.Limit.{region_empty, region_counted}
use Rattle.loaded.proofs.limit.region_pieces.Goals as goal

pub returns-then-not-x : goal.returns-then-not-x
returns-then-not-x c = (region_empty _ _ _ (not-true _ c.if-not-x.true), omega arith)

pub returns : goal.returns
returns c = (region_counted _ _ _ (not-false _ c.if-not-x.false) c.entry_pieces.ensures.0, c.entry_pieces.ensures.1)
