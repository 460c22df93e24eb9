-- src/pieces.rt, list_entry: SlotListed board ((view t.now).k.slot p.0 s.0) list.old result list.new
use native.Mathlib.Omega.{arith}
use borrow.Author.Tests.{not-true, not-false}
use Rattle.holders.specs.Laws.Listing.{slot_none, can_list, slot_short, slot_listed}
use Rattle.holders.proofs.pieces.list_entry.Goals as goal

pub returns-then-not-f : goal.returns-then-not-f
returns-then-not-f c = slot_none _ c.entry-f.ensures (not-true _ c.if-not-f.true)

pub piece_count-count-requires : goal.piece_count-count-requires
piece_count-count-requires c = c.entry-f.ensures.end_small

pub returns-then-list-count : goal.returns-then-list-count
returns-then-list-count c = slot_short _ c.entry-f.ensures (not-false _ c.if-not-f.false) (omega (arith, c.piece_count-count.ensures.0, c.if-list-count.true))

pub write_pieces-n-requires : goal.write_pieces-n-requires
write_pieces-n-requires c = can_list _ c.entry-f.ensures (not-false _ c.if-not-f.false) c.requires.2 (omega (arith, c.piece_count-count.ensures.0, c.if-list-count.false))

pub returns : goal.returns
returns c = slot_listed _ c.entry-f.ensures (not-false _ c.if-not-f.false) (omega (arith, c.piece_count-count.ensures.0, c.if-list-count.false)) c.write_pieces-n.ensures
