-- src/cut_service.rt, split_entry: Is t.new (split_at (view t.old) c.0 s.0 n.0 l.0 f)
use Rattle.tables.specs.State.{Table, some, ending_at, starting_at}
use Rattle.tables.specs.View.{entry_of}
use Rattle.tables.specs.Laws.Encode.{is_canon}
use Rattle.tables.specs.Write.{put_slot}
use Rattle.writing.specs.Laws.Stored.{is_then}
use Rattle.blocks.proofs.cut_service.split_entry.Goals as goal

pub unload_entry-requires : goal.unload_entry-requires
unload_entry-requires c = record { canon = c.requires.0.canon; in_p = c.requires.0.in_p; in_i = c.requires.0.in_i }

pub put_entry-requires : goal.put_entry-requires
put_entry-requires c = record { canon = is_canon c.unload_entry.ensures; in_p = c.requires.0.in_p; in_i = c.requires.0.in_i; present = c.requires.0.present; given_small = c.requires.0.given_small; start_small = c.requires.0.start_small; end_small = c.requires.2 }

pub put_entry-requires-2 : goal.put_entry-requires-2
put_entry-requires-2 c =
    let canon = is_canon c.put_entry.ensures in
    record { canon = canon; in_p = c.requires.0.in_p; in_i = c.requires.1; present = c.requires.0.present; given_small = c.requires.0.given_small; start_small = c.requires.2; end_small = c.requires.0.end_small }

pub returns : goal.returns
returns c =
    is_then (λ (t : Table). put_slot t c.args.c.0 c.args.n.0 (some (starting_at (entry_of c.args.f) c.args.l.0)) c.args.f.opened)
    (is_then (λ (t : Table). put_slot t c.args.c.0 c.args.s.0 (some (ending_at (entry_of c.args.f) c.args.l.0)) c.args.f.opened) c.unload_entry.ensures c.put_entry.ensures)
    c.put_entry-2.ensures
