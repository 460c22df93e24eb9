-- src/walk.rt, walk_entry: WalkSays t.now order.now.slots order.now.counts mark.now q.0 (j + 1) result next.new
use native.Mathlib.Omega.{arith}
use Rattle.decide.specs.Laws.Decide.{passed}
use Rattle.decide.specs.Laws.Tiles.{seen_present}
use Rattle.decide.specs.Laws.Walk.{step_row, step_entry, step_slot, entry_wrong, entry_free, given_row, given_few, entry_stuck, entry_on, walk_says, walk_stops}
use mathlib.Core.Path.{ap}
use mathlib.Core.Bool.{not}
use Rattle.decide.proofs.walk.walk_entry.Goals as goal

pub slot_at-i-requires : goal.slot_at-i-requires
slot_at-i-requires c = let h = step_row c.requires in (h.in_p, omega (arith, h.rows.ordered.few, c.requires.next), h.rows.ordered.under _ c.requires.next)

pub entry-g-requires : goal.entry-g-requires
entry-g-requires c = (c.requires.in_q, step_slot c.requires c.slot_at-i.ensures)

pub entry_right-requires : goal.entry_right-requires
entry_right-requires c =
    let h = c.requires in
    let at = c.slot_at-i.ensures in
    (h.in_q, step_slot h at, h.can.shaped, h.can.marked.size, c.entry-g.ensures, seen_present (step_entry h at) c.entry-g.ensures)

pub returns-then-not-entry_right : goal.returns-then-not-entry_right
returns-then-not-entry_right c = walk_stops (entry_wrong c.requires c.slot_at-i.ensures c.entry_right.ensures (ap not c.if-not-entry_right.true))

pub returns-then-g-eq0 : goal.returns-then-g-eq0
returns-then-g-eq0 c = walk_says (entry_free c.requires c.slot_at-i.ensures c.entry-g.ensures (passed c.entry_right.ensures (ap not c.if-not-entry_right.false)) c.if-g-eq0.true)

pub tile_slot-x-requires : goal.tile_slot-x-requires
tile_slot-x-requires c =
    let right = passed c.entry_right.ensures (ap not c.if-not-entry_right.false) in (
      given_row c.requires c.slot_at-i.ensures c.entry-g.ensures right c.if-g-eq0.false,
      given_few c.requires c.slot_at-i.ensures c.entry-g.ensures right c.if-g-eq0.false,
      (_, step_entry c.requires c.slot_at-i.ensures),
    )

pub returns-then-x-n : goal.returns-then-x-n
returns-then-x-n c =
    let right = passed c.entry_right.ensures (ap not c.if-not-entry_right.false) in
    walk_stops (entry_stuck c.requires c.slot_at-i.ensures c.entry-g.ensures right c.if-g-eq0.false c.tile_slot-x.ensures c.if-x-n.true)

pub returns : goal.returns
returns c =
    let right = passed c.entry_right.ensures (ap not c.if-not-entry_right.false) in
    walk_says (entry_on c.requires c.slot_at-i.ensures c.entry-g.ensures right c.if-g-eq0.false c.tile_slot-x.ensures c.if-x-n.false)
