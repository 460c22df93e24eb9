-- src/lib.rt, check_slots: SlotsChecked t.now p.0 0 (s5 t.now (view t.now).k p.0) result
use Prim.Native.Nat.{◌*◌}
use Rattle.tables.specs.View.{view}
use Rattle.summing.specs.Sums.{Adding}
use Rattle.comparing.specs.Laws.Once.{StructuresFrom}
use Rattle.comparing.proofs.check_slots.Given as goal

abbrev pub invariant-loop-j : goal.invariant-loop-j
invariant-loop-j l = StructuresFrom l.t l.p.0 l.j × Adding (view l.t) l.p.0 (8 * l.j) l.sums
