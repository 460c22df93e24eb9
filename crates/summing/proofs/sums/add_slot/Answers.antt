-- src/sums.rt, add_slot: Adding (view t.now) p.0 s.0 result
use borrow.Author.Tests.{not-true, not-false}
use Rattle.loops.specs.Laws.Map.{map_room}
use Rattle.summing.specs.Laws.Sums.{entry_range, add_entry, skip_slot, held_room, opened_room}
use native.Mathlib.Omega.{arith}
use Rattle.summing.proofs.sums.add_slot.Goals as goal

pub entry-f-requires : goal.entry-f-requires
entry-f-requires c = (c.requires.0, omega (arith, c.requires.1.slots.within))

pub overflow_mul-slots : goal.overflow_mul-slots
overflow_mul-slots c = record { fits = omega (arith, map_room c.requires.1.slots (omega arith)) }

pub returns-then-not-f : goal.returns-then-not-f
returns-then-not-f c = skip_slot c.entry-f.ensures c.requires.1 (not-true c.entry-f.result.present c.if-not-f.true)

pub overflow_add-result : goal.overflow_add-result
overflow_add-result c = let asked = c.requires in record { fits = omega (arith, map_room asked.1.slots (omega arith)) }

pub lines-requires : goal.lines-requires
lines-requires c = let seen = c.entry-f in entry_range c.requires.2 seen.ensures (not-false seen.result.present c.if-not-f.false)

pub overflow_add-result-2 : goal.overflow_add-result-2
overflow_add-result-2 c = let asked = c.requires in record { fits = held_room c.entry-f.ensures asked.1 c.lines.ensures }

pub open_lines-requires : goal.open_lines-requires
open_lines-requires c = let seen = c.entry-f in entry_range c.requires.2 seen.ensures (not-false seen.result.present c.if-not-f.false)

pub overflow_add-result-3 : goal.overflow_add-result-3
overflow_add-result-3 c = let asked = c.requires in record { fits = opened_room c.entry-f.ensures asked.1 c.open_lines.ensures }

pub returns : goal.returns
returns c =
    let asked = c.requires in
    let seen = c.entry-f in
    add_entry seen.ensures asked.1 (not-false seen.result.present c.if-not-f.false) c.lines.ensures c.open_lines.ensures
