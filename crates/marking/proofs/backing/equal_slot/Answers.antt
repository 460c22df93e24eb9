-- src/backing.rt, equal_slot: result ≡ equal_slot (view t.now).k q.0 (area_between lo.0 hi.0)
use Rattle.loops.specs.Laws.Scan.{seek_start, seek_hit, seek_on}
use Rattle.marking.specs.Backing.{backs}
use Rattle.marking.specs.Laws.Backing.{backs_empty}
use Rattle.ordering.specs.Laws.Used.{seek_bound}
use native.Mathlib.Omega.{arith}
use Rattle.marking.proofs.backing.equal_slot.Goals as goal

pub loop-i-init : goal.loop-i-init
unfolding backs
loop-i-init c = seek_start

pub returns-then-backs : goal.returns-then-backs
unfolding backs
returns-then-backs c = seek_hit c.loop-i.invariant (omega (arith, c.used_slots-used.ensures.bound.within)) (rw (c.entry-f.ensures.slot, ← c.backs.ensures) c.if-backs.true)

pub loop-i-preserved : goal.loop-i-preserved
unfolding backs
loop-i-preserved c = seek_on c.loop-i.invariant (omega (arith, c.used_slots-used.ensures.bound.within)) (rw (c.entry-f.ensures.slot, ← c.backs.ensures) c.if-backs.false)

pub returns : goal.returns
unfolding backs
returns c = seek_bound c.loop-i.invariant (λ j a b. backs_empty _ c.used_slots-used.ensures.bound j (omega arith) b)
