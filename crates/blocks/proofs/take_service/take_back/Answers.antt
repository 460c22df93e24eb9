-- src/take_service.rt, take_back: Is t.new (taken_back (view t.old) c.0 s.0 i.0 e)
use mathlib.Core.Bool.{false}
use Rattle.tables.specs.State.{Table, none}
use Rattle.tables.specs.Laws.Encode.{is_canon}
use Rattle.tables.specs.Write.{put_slot}
use Rattle.writing.specs.Laws.Stored.{is_then}
use Rattle.blocks.proofs.take_service.take_back.Goals as goal

pub clear_entry-requires : goal.clear_entry-requires
clear_entry-requires c = record { canon = is_canon c.put_entry.ensures; in_p = c.requires.0.given_small; in_i = c.requires.1 }

pub returns : goal.returns
returns c = is_then (λ (t : Table). put_slot t c.args.e.given.0 c.args.i.0 none false) c.put_entry.ensures c.clear_entry.ensures
