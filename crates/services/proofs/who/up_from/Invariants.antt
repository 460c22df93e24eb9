-- src/who.rt, up_from: result ≡ up_from (view t.now).k p.0
use Rattle.tables.specs.View.{view}
use Rattle.rules.specs.Laws.Changes.{MaskUp}
use Prim.Native.Nat.{◌-◌}
use Rattle.services.proofs.who.up_from.Given as goal

abbrev pub invariant-loop : goal.invariant-loop
invariant-loop l = MaskUp (view l.t).k l.initial.q l.q (15 - l.counter) l.mask
