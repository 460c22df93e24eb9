-- src/give_service.rt, hand_over: Is t.new (handed_to (view t.old) c.0 s.0 p.0 n.0 r whole f)
use native.Mathlib.Omega.{arith}
use Rattle.tables.specs.State.{Table, some, range_of}
use Rattle.tables.specs.View.{entry_of}
use Rattle.tables.specs.Laws.Encode.{is_canon}
use Rattle.tables.specs.Write.{put_slot}
use Rattle.writing.specs.Laws.Stored.{is_then}
use Rattle.blocks.proofs.give_service.hand_over.Goals as goal

pub put_entry-requires-2 : goal.put_entry-requires-2
put_entry-requires-2 c = record { canon = is_canon c.put_entry.ensures; in_p = c.requires.1; in_i = c.requires.2; present = c.requires.0.present; given_small = omega arith; start_small = c.requires.0.start_small; end_small = c.requires.0.end_small }

pub returns : goal.returns
returns c = is_then (λ (t : Table). put_slot t c.args.p.0 c.args.n.0 (some (range_of (entry_of c.args.f) c.args.r c.args.whole)) c.args.f.opened) c.put_entry.ensures c.put_entry-2.ensures
