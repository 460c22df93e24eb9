-- src/entries.rt, has_lent: result ≡ any 32 (λ i. has (lends p.0 (entry_of f)) ((view t.now).k.slot q.0 i))
use Rattle.loops.specs.Laws.Scan.{seek_start, seek_hit, seek_on}
use Rattle.decide.specs.Laws.Entries.{lends_empty}
use Rattle.ordering.specs.Laws.Used.{seek_bound}
use native.Mathlib.Omega.{arith}
use Rattle.decide.proofs.entries.has_lent.Goals as goal

pub loop-i-init : goal.loop-i-init
loop-i-init c = seek_start

pub entry-g-requires : goal.entry-g-requires
entry-g-requires c = (c.requires.0, omega (arith, c.used_slots-used.ensures.bound.within))

pub returns-then-lends : goal.returns-then-lends
returns-then-lends c = seek_hit c.loop-i.invariant (omega (arith, c.used_slots-used.ensures.bound.within)) (rw (c.entry-g.ensures.slot, ← c.lends.ensures) c.if-lends.true)

pub loop-i-preserved : goal.loop-i-preserved
loop-i-preserved c = seek_on c.loop-i.invariant (omega (arith, c.used_slots-used.ensures.bound.within)) (rw (c.entry-g.ensures.slot, ← c.lends.ensures) c.if-lends.false)

pub returns : goal.returns
returns c = seek_bound c.loop-i.invariant (λ j a b. lends_empty _ _ c.used_slots-used.ensures.bound j (omega arith) b)
