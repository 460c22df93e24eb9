-- src/give_service.rt, give: Ran (give (view t.old) p.0 s.0 r whole) t.old result t.new
use Rattle.std.proofs.lemmas.Result.{err_from_is_err_and}
use mathlib.Core.Path.{sym, ◌∙◌}
use Rattle.rules.specs.Rules.{give}
use Rattle.rules.specs.Laws.Ran.{ran_refused, pass, fail}
use Rattle.blocks.specs.Laws.Pick.{picked_no, picked_is}
use Rattle.blocks.specs.Laws.GiveExits.{child_now}
use Rattle.blocks.proofs.give_service.give.Goals as goal
use Rattle.words.specs.declared.Refusal.TheVariants.{WrongPartition}

pub is_child-requires : goal.is_child-requires
unfolding give
is_child-requires c = c.requires.1

pub returns-then-not-is_child : goal.returns-then-not-is_child
unfolding give
returns-then-not-is_child c = ran_refused (fail WrongPartition _ (child_now _ _ c.first.ensures.current (sym c.is_child.ensures ∙ c.if-not-is_child.true)))

pub free_entry-requires : goal.free_entry-requires
unfolding give
free_entry-requires c = c.requires.2

pub give_entry-requires : goal.give_entry-requires
unfolding give
give_entry-requires c = record { canon = c.requires.0; now = c.first.ensures.current; caller = c.first.ensures.current_small; in_p = c.requires.1; in_i = c.requires.2; is_child = sym c.is_child.ensures ∙ c.if-not-is_child.false; entry = picked_is c.in_ok-f.was c.free_entry.ensures; right = c.requires.3 }

pub returns-in_err-f : goal.returns-in_err-f
unfolding give
returns-in_err-f c = let p = err_from_is_err_and c.from_residual.result c.from_residual.ensures.1 in rw (p.1, p.2) (ran_refused (pass WrongPartition (child_now _ _ c.first.ensures.current (sym c.is_child.ensures ∙ c.if-not-is_child.false)) (picked_no c.in_err-f.was c.free_entry.ensures _)))
