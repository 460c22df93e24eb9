-- src/unloading.rt, unload_entry: Is t.new (unloaded_at (view t.old) c.0 s.0)
use Rattle.tables.specs.State.{Table}
use Rattle.tables.specs.Laws.Encode.{is_canon}
use Rattle.tables.specs.Kept.{keep_regions}
use Rattle.writing.specs.Laws.Stored.{is_then}
use Rattle.blocks.proofs.unloading.unload_entry.Goals as goal

pub settle_regions-requires : goal.settle_regions-requires
settle_regions-requires c = (is_canon c.clear_entry.ensures, c.requires.in_p)

pub returns : goal.returns
returns c = is_then (λ (t : Table). keep_regions t c.args.c.0) c.clear_entry.ensures c.settle_regions.ensures
