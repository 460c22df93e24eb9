-- src/lib.rt, free_byte: (result ≡ map_from (free (view t.now).k p.0) (8 * j) 8) × (result < 256)
use Prim.Native.Nat.{◌*◌}
use Rattle.loops.specs.Laws.Map.{Mapping}
use Rattle.tables.specs.View.{view}
use Rattle.tables.specs.Search.{free}
use Rattle.searching.proofs.free_byte.Given as goal

abbrev pub invariant-loop-i : goal.invariant-loop-i
invariant-loop-i l = Mapping (free (view l.t).k l.p.0) (8 * l.j) 8 l.i l.byte
