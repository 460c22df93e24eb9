-- src/given.rt, given_each: result ≡ s7_given (view t.now).k p.0 && s7_whole (view t.now) p.0
use mathlib.Core.Path.{ap, sym, ◌∙◌}
use mathlib.Core.Bool.{not}
use Rattle.loops.specs.Laws.Scan.{seek_start, seek_hit, seek_on}
use Rattle.covering.specs.Laws.Given.{given_each_is, given_empty}
use Rattle.ordering.specs.Laws.Used.{seek_bound}
use native.Mathlib.Omega.{arith}
use Rattle.covering.proofs.given.given_each.Goals as goal

pub loop-i-init : goal.loop-i-init
loop-i-init c = seek_start

pub given_slot-requires : goal.given_slot-requires
given_slot-requires c = (c.requires.0, omega (arith, c.used_slots-used.ensures.bound.within), c.requires.1)

pub returns-then-not-given_slot : goal.returns-then-not-given_slot
returns-then-not-given_slot c = seek_hit c.loop-i.invariant (omega (arith, c.used_slots-used.ensures.bound.within)) (ap not (sym c.given_slot.ensures) ∙ (ap not c.if-not-given_slot.true)) ∙ given_each_is _ _

pub loop-i-preserved : goal.loop-i-preserved
loop-i-preserved c = seek_on c.loop-i.invariant (omega (arith, c.used_slots-used.ensures.bound.within)) (ap not (sym c.given_slot.ensures) ∙ (ap not c.if-not-given_slot.false))

pub returns : goal.returns
returns c = seek_bound c.loop-i.invariant (λ j a b. ap not (given_empty c.used_slots-used.ensures.bound j (omega arith) b)) ∙ given_each_is _ _
