-- src/lib.rt, covers: result ≡ covers_for ranked (view t.now) p.0
use Rattle.decide.specs.Laws.Tiles.{in_order, child_of}
use Rattle.covering.proofs.covers.Goals as goal

pub tiles_memory-requires : goal.tiles_memory-requires
tiles_memory-requires c = let h = c.requires in (in_order h.2 h.3 h.0 h.1, c.if-p-eq0.true, h.2)

pub tiles_grants-requires : goal.tiles_grants-requires
tiles_grants-requires c =
    let h = c.requires in
    let g = c.header-h.ensures in
    child_of h.2 h.3 h.0 h.1 c.if-p-eq0.false g.parent_small g.parent
