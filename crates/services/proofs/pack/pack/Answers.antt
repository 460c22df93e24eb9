-- src/pack.rt, pack: Ran (pack (view t.old) p.0) t.old result t.new
use mathlib.Core.Path.{sym, ◌∙◌}
use native.Mathlib.Omega.{arith}
use Rattle.rules.specs.Rules.{pack}
use Rattle.rules.specs.Laws.Ran.{ran_refused, fail}
use Rattle.services.specs.Laws.PackExits.{pack_start, can_turn, pack_more, pack_end}
use Rattle.services.proofs.pack.pack.Goals as goal
use Rattle.words.specs.declared.Refusal.TheVariants.{WrongPartition}

pub returns-then-not-own_or_child : goal.returns-then-not-own_or_child
unfolding pack
returns-then-not-own_or_child c = ran_refused (fail WrongPartition _ (sym c.own_or_child.ensures ∙ c.if-not-own_or_child.true))

pub loop-i-init : goal.loop-i-init
unfolding pack
loop-i-init c = pack_start c.requires.0 c.requires.2

pub pack_slot-moved-requires : goal.pack_slot-moved-requires
unfolding pack
pack_slot-moved-requires c = can_turn c.loop-i.invariant c.requires.1 (omega arith)

pub loop-i-preserved : goal.loop-i-preserved
unfolding pack
loop-i-preserved c = pack_more c.loop-i.invariant (omega arith) c.pack_slot-moved.ensures

pub returns : goal.returns
unfolding pack
returns c = pack_end c.requires.2 (sym c.own_or_child.ensures ∙ c.if-not-own_or_child.false) c.loop-i.invariant (omega arith)
