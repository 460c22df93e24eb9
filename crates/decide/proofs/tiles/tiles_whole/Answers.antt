-- src/tiles.rt, tiles_whole: result ≡ exactly (view t.now).k p.0
use Rattle.decide.specs.Laws.Lines.{root_walk}
use Rattle.decide.proofs.tiles.tiles_whole.Goals as goal

pub returns : goal.returns
returns c =
    let g = c.first-f.ensures in
    root_walk c.requires.0 c.requires.1 (rw (g.base, g.stop) c.tile_lines.ensures)
