-- src/lib.rt, descend: (result.deepest.0 ≡ deepest (view t.now).k l.0 0 15) × (result.deepest.0 < 16) × (result.count ≡ looks_of (view t.now).k l.0)
use Rattle.tables.specs.View.{view}
use Rattle.sound.proofs.Laws.Looks.{Descending}
use Prim.Native.Nat.{◌-◌}
use Rattle.holders.proofs.descend.Given as goal

abbrev pub invariant-loop : goal.invariant-loop
invariant-loop l = Descending (view l.t).k l.l.0 l.p.0 (15 - l.counter) l.count
