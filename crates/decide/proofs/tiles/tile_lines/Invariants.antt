-- src/tiles.rt, tile_lines: Tiled (plain_row t.now order.now p.0) n i lo.0 hi.0 all_rights result
use Prim.Native.Nat.{◌-◌, ◌≤◌}
use Rattle.tables.specs.State.{all_rights}
use Rattle.decide.specs.Tiles.{plain_row, Tiling}
use Rattle.decide.proofs.tiles.tile_lines.Given as goal

abbrev pub invariant-loop-at : goal.invariant-loop-at
invariant-loop-at l = (l.a ≤ l.n) × Tiling (plain_row l.t l.order l.p.0) l.i l.a l.initial.at.0 l.hi.0 l.at.0 all_rights

abbrev pub decreases-loop-at : goal.decreases-loop-at
decreases-loop-at l = l.n - l.a
