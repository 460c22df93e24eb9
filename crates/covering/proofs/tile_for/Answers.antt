-- src/lib.rt, tile_for: TiledFor ranked t.now order.now p.0 n i q.0 j.0 result
use Rattle.tables.specs.Laws.View.{slot_bounds}
use Rattle.covering.specs.Laws.Cover.{ranks_tiled, lines_tiled}
use Rattle.covering.proofs.tile_for.Goals as goal

pub tile_slot-requires : goal.tile_slot-requires
tile_slot-requires c = c.requires

pub returns-then-ranked : goal.returns-then-ranked
returns-then-ranked c = ranks_tiled c.if-ranked.true c.tile_slot.ensures

pub entry-g-requires : goal.entry-g-requires
entry-g-requires c = let (e, u) = c.requires.2 in slot_bounds _ _ _ e u

pub tile_lines-requires : goal.tile_lines-requires
tile_lines-requires c = (c.requires.0, c.requires.1)

pub returns : goal.returns
returns c = lines_tiled c.if-ranked.false c.requires.2 c.entry-g.ensures c.tile_lines.ensures
