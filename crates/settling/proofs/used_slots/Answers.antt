-- src/lib.rt, used_slots: UsedEnd (view t.now).k p.0 result
use mathlib.Core.Path.{◌≡◌}
use Prim.Native.Nat.{◌+◌, ◌-◌}
use Rattle.settling.specs.Laws.Settled.{absent_more, ends_here}
use native.Mathlib.Omega.{arith}
use Rattle.settling.proofs.used_slots.Goals as goal

pub returns-then-s : goal.returns-then-s
returns-then-s c = let here : c.loop-j.j - 1 + 1 ≡ c.loop-j.j = omega arith in rw here (ends_here c.loop-j.invariant (omega arith) c.structure-s.ensures c.if-s.true)

pub loop-j-preserved : goal.loop-j-preserved
loop-j-preserved c = absent_more c.loop-j.invariant (omega arith) c.structure-s.ensures c.if-s.false
