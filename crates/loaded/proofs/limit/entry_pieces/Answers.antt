-- src/limit.rt, entry_pieces: (result ≡ entry_pieces board ((view t.now).k.slot p.0 i.0)) × (result ≤ 52)
use native.Mathlib.Omega.{arith}
use borrow.Author.Tests.{not-true, not-false}
use Rattle.loaded.specs.Laws.Limit.{entry_empty, entry_counted}
use Rattle.loaded.proofs.limit.entry_pieces.Goals as goal

pub returns-then-not-f : goal.returns-then-not-f
returns-then-not-f c = (entry_empty _ c.entry-f.ensures (not-true _ c.if-not-f.true), omega arith)

pub piece_count-requires : goal.piece_count-requires
piece_count-requires c = c.entry-f.ensures.end_small

pub returns : goal.returns
returns c = (entry_counted _ c.entry-f.ensures (not-false _ c.if-not-f.false) c.piece_count.ensures.0, c.piece_count.ensures.1)
