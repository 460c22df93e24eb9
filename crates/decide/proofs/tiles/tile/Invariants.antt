-- src/tiles.rt, tile: TiledAs (row_of t.now order.now p.0) (opened_bit t.now order.now p.0) n i lo.0 hi.0 r opened result
use mathlib.Core.Path.{◌≡◌}
use mathlib.Core.Bool.{true}
use mathlib.Core.Logic.{◌↔◌}
use Prim.Native.Nat.{◌-◌, ◌≤◌}
use lib.Dec.{eqb}
use Rattle.decide.specs.Tiles.{row_of, opened_bit, Tiling, AllSet}
use Rattle.decide.specs.Laws.Tiles.{ComparedWith}
use Rattle.decide.proofs.tiles.tile.Given as goal

abbrev pub invariant-loop-at : goal.invariant-loop-at
invariant-loop-at l = (l.k ≤ l.n) × Tiling (row_of l.t l.order l.p.0) l.i l.k l.initial.at.0 l.hi.0 l.at.0 l.initial.s × ComparedWith (row_of l.t l.order l.p.0) l.i l.k l.initial.s l.s × (l.first ≡ eqb l.k l.i) × ((l.all_open ≡ true) ↔ AllSet (opened_bit l.t l.order l.p.0) l.i l.k)

abbrev pub decreases-loop-at : goal.decreases-loop-at
decreases-loop-at l = l.n - l.k
