-- src/entries.rt, full_each: result ≡ all 32 (full_slot (view t.now).k p.0)
use mathlib.Core.Path.{ap, sym, ◌∙◌}
use mathlib.Core.Bool.{not}
use Rattle.loops.specs.Laws.Scan.{seek_start, seek_hit, seek_on}
use Rattle.decide.specs.Laws.Entries.{full_empty}
use Rattle.ordering.specs.Laws.Used.{seek_bound}
use native.Mathlib.Omega.{arith}
use Rattle.decide.proofs.entries.full_each.Goals as goal

pub loop-i-init : goal.loop-i-init
loop-i-init c = seek_start

pub full_slot-requires : goal.full_slot-requires
full_slot-requires c = (c.requires.0, omega (arith, c.used_slots-used.ensures.bound.within))

pub returns-then-not-full_slot : goal.returns-then-not-full_slot
returns-then-not-full_slot c = seek_hit c.loop-i.invariant (omega (arith, c.used_slots-used.ensures.bound.within)) (ap not (sym c.full_slot.ensures) ∙ (ap not c.if-not-full_slot.true))

pub loop-i-preserved : goal.loop-i-preserved
loop-i-preserved c = seek_on c.loop-i.invariant (omega (arith, c.used_slots-used.ensures.bound.within)) (ap not (sym c.full_slot.ensures) ∙ (ap not c.if-not-full_slot.false))

pub returns : goal.returns
returns c = seek_bound c.loop-i.invariant (λ j a b. ap not (full_empty c.used_slots-used.ensures.bound j (omega arith) b))
