-- src/pack.rt, move_entry: Is t.new (moved_to (view t.old) p.0 i.0 j.0 f)
use mathlib.Core.Bool.{false}
use Rattle.tables.specs.State.{Table, none}
use Rattle.tables.specs.Laws.Encode.{is_canon}
use Rattle.tables.specs.Write.{put_slot}
use Rattle.writing.specs.Laws.Stored.{is_then}
use Rattle.services.specs.PackExits.{renamed}
use Rattle.services.proofs.pack.move_entry.Goals as goal

pub clear_entry-requires : goal.clear_entry-requires
clear_entry-requires c = record { canon = is_canon c.put_entry.ensures; in_p = c.requires.0.in_p; in_i = c.requires.1 }

pub rename_regions-requires : goal.rename_regions-requires
rename_regions-requires c = (is_canon c.clear_entry.ensures, c.requires.0.in_p, c.requires.0.in_i)

pub returns : goal.returns
returns c =
    let cleared = is_then (λ (t : Table). put_slot t c.args.p.0 c.args.i.0 none false) c.put_entry.ensures c.clear_entry.ensures in
    is_then (λ (t : Table). renamed t c.args.p.0 c.args.i.0 c.args.j.0) cleared c.rename_regions.ensures
