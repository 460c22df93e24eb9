-- src/tiles.rt, tile_slot: TiledSlot t.now order.now p.0 n i q.0 j.0 result
use Rattle.tables.specs.Laws.View.{slot_bounds}
use Rattle.decide.specs.Laws.Tiles.{slot_tiled}
use Rattle.decide.proofs.tiles.tile_slot.Goals as goal

pub entry-g-requires : goal.entry-g-requires
entry-g-requires c = let (e, u) = c.requires.2 in slot_bounds _ _ _ e u

pub tile-requires : goal.tile-requires
tile-requires c = (c.requires.0, c.requires.1)

pub returns : goal.returns
returns c = slot_tiled c.requires.2 c.entry-g.ensures c.tile.ensures
