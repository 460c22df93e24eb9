-- src/switch_service.rt, switch: Ran (switch (view t.old) p.0) t.old result t.new
use mathlib.Core.Path.{refl, sym, ◌∙◌}
use Rattle.sound.specs.Laws.Settled.{current_settled, settled_words}
use Rattle.rules.specs.Rules.{switch}
use Rattle.rules.specs.Laws.Ran.{ran_refused, ran_done, pass, fail}
use Rattle.services.proofs.switch_service.switch.Goals as goal
use Rattle.words.specs.declared.Refusal.TheVariants.{WrongPartition}

pub returns-then-not-parent_or_child : goal.returns-then-not-parent_or_child
unfolding switch
returns-then-not-parent_or_child c = ran_refused (fail WrongPartition _ (sym c.parent_or_child.ensures ∙ c.if-not-parent_or_child.true))

pub put_current-requires : goal.put_current-requires
unfolding switch
put_current-requires c = record { canon = c.requires.0; in_c = c.requires.1 }

pub returns : goal.returns
unfolding switch
returns c = ran_done (pass WrongPartition (sym c.parent_or_child.ensures ∙ c.if-not-parent_or_child.false) refl) (settled_words c.put_current.ensures (current_settled c.requires.2 _))
