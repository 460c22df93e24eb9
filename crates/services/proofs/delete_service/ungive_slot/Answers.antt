-- src/delete_service.rt, ungive_slot: Is t.new (ungive_at (view t.old) c.0 p.0 i.0)
use Rattle.services.specs.Laws.DeleteExits.{ungive_empty, ungive_others, ungive_done}
use native.Mathlib.Omega.{arith}
use Rattle.words.specs.Laws.Same.{ne_same, ne_apart}
use Rattle.services.proofs.delete_service.ungive_slot.Goals as goal

pub returns-then-not-f : goal.returns-then-not-f
returns-then-not-f c = ungive_empty c.entry-f.ensures _ c.requires.0 c.if-not-f.true

pub returns-then-ne : goal.returns-then-ne
returns-then-ne c = ungive_others c.entry-f.ensures _ c.requires.0 c.if-not-f.false (ne_apart c.ne.ensures c.if-ne.true)

pub put_entry-requires : goal.put_entry-requires
put_entry-requires c = record { canon = c.requires.0; in_p = c.requires.1; in_i = c.requires.2; present = c.if-not-f.false; given_small = omega arith; start_small = c.entry-f.ensures.start_small; end_small = c.entry-f.ensures.end_small }

pub returns : goal.returns
returns c = ungive_done c.entry-f.ensures _ c.if-not-f.false (ne_same c.ne.ensures c.if-ne.false) c.put_entry.ensures
