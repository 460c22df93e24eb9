-- src/collect_service.rt, vacant: result ≡ vacant (view t.now).k p.0 j
use Rattle.loops.specs.Laws.Every.{Passing}
use Rattle.tables.specs.View.{view}
use Rattle.tables.specs.Search.{is_some}
use mathlib.Core.Bool.{not}
use Prim.Native.Nat.{◌+◌, ◌*◌}
use Rattle.services.proofs.collect_service.vacant.Given as goal

abbrev pub invariant-loop-i : goal.invariant-loop-i
invariant-loop-i l = Passing (λ n. not (is_some ((view l.t).k.slot l.p.0 (8 * l.j + n)))) 8 l.i
