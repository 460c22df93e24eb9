-- src/lib.rt, free_map: result ≡ map_of 32 (free (view t.now).k p.0)
use native.Mathlib.Omega.{arith}
use Rattle.loops.specs.Laws.Map.{map_join}
use Rattle.tables.specs.View.{view}
use Rattle.tables.specs.Search.{free}
use Rattle.searching.proofs.free_map.Goals as goal

pub returns : goal.returns
returns c =
    let a = c.args in
    let f = free (view a.t.now).k a.p.0 in
    omega (arith, c.free_byte.ensures.0, c.free_byte-2.ensures.0, c.free_byte-3.ensures.0, c.free_byte-4.ensures.0, map_join f 0 8 24, map_join f 8 8 16, map_join f 16 8 8)
