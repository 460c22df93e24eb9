-- src/gone.rt, open_slot: SlotDone Gone p.0 i.0 t.old t.new
use borrow.Author.Tests.{not-true, not-false}
use Rattle.settling.specs.Laws.Settled.{stays_empty, open_stays, opens}
use Rattle.settling.proofs.gone.open_slot.Goals as goal

pub returns-then-not-f : goal.returns-then-not-f
returns-then-not-f c = let h = c.requires in stays_empty h.0 h.1 c.entry-f.ensures (not-true _ c.if-not-f.true)

pub returns-then-f : goal.returns-then-f
returns-then-f c =
    let h = c.requires in
    open_stays h.0 h.1 c.entry-f.ensures c.if-f.true

pub is_clear_of-requires : goal.is_clear_of-requires
is_clear_of-requires c = c.requires.2.rising.few

pub returns : goal.returns
returns c =
    let h = c.requires in
    opens h.0 h.1 c.entry-f.ensures h.3 h.4 h.2 (not-false _ c.if-not-f.false) c.is_clear_of.ensures c.write.ensures c.store.ensures
