-- src/came.rt, close_slot: SlotDone (Came lo.0 hi.0) p.0 i.0 t.old t.new
use borrow.Author.Tests.{not-true, not-false}
use Rattle.settling.specs.Laws.Areas.{off_behind, off_before, on_both}
use Rattle.settling.specs.Laws.Settled.{stays_closed, stays_open, close_canon, closes}
use Rattle.settling.proofs.came.close_slot.Goals as goal

pub returns-then-not-f : goal.returns-then-not-f
returns-then-not-f c = let h = c.requires in stays_closed h.0 h.1 c.entry-f.ensures (not-true _ c.if-not-f.true)

pub returns-then-f-hi : goal.returns-then-f-hi
returns-then-f-hi c =
    let h = c.requires in
    stays_open h.0 h.1 c.entry-f.ensures (not-false _ c.if-not-f.false) (off_behind _ _ _ _ c.if-f-hi.true)

pub returns-then-lo-f : goal.returns-then-lo-f
returns-then-lo-f c =
    let h = c.requires in
    stays_open h.0 h.1 c.entry-f.ensures (not-false _ c.if-not-f.false) (off_before _ _ _ _ c.if-lo-f.true)

pub settle_regions-requires : goal.settle_regions-requires
settle_regions-requires c =
    let h = c.requires in
    (close_canon h.0 h.1 c.entry-f.ensures h.2 h.3 (not-false _ c.if-not-f.false) c.write.ensures c.store.ensures, h.2)

pub returns : goal.returns
returns c =
    let h = c.requires in
    closes h.0 h.1 c.entry-f.ensures h.2 h.3 (not-false _ c.if-not-f.false) (on_both _ _ _ _ c.if-f-hi.false c.if-lo-f.false) c.write.ensures c.store.ensures c.settle_regions.ensures
