-- src/merge_service.rt, merge_entries: Ran (merge (view t.old) s.0 u.0) t.old result t.new
use mathlib.Core.Path.{sym, ◌∙◌}
use Rattle.rules.specs.Laws.Ran.{ran_refused}
use Rattle.blocks.specs.Laws.MergeExits.{merge_closed, merge_other_closed, merge_given, merge_other_given, merge_apart, merge_two_grants, merge_exit_done}
use Rattle.words.specs.Laws.Same.{ne_same, ne_apart}
use Rattle.blocks.proofs.merge_service.merge_entries.Goals as goal

pub returns-then-not-e : goal.returns-then-not-e
returns-then-not-e c = ran_refused (merge_closed c.requires c.if-not-e.true)

pub returns-then-not-f : goal.returns-then-not-f
returns-then-not-f c = ran_refused (merge_other_closed c.requires c.if-not-e.false c.if-not-f.true)

pub returns-then-e-ne0 : goal.returns-then-e-ne0
returns-then-e-ne0 c = ran_refused (merge_given c.requires c.if-not-e.false c.if-not-f.false c.if-e-ne0.true)

pub returns-then-f-ne0 : goal.returns-then-f-ne0
returns-then-f-ne0 c = ran_refused (merge_other_given c.requires c.if-not-e.false c.if-not-f.false c.if-e-ne0.false c.if-f-ne0.true)

pub returns-then-ne : goal.returns-then-ne
returns-then-ne c = ran_refused (merge_apart c.requires c.if-not-e.false c.if-not-f.false c.if-e-ne0.false c.if-f-ne0.false (ne_apart c.ne.ensures c.if-ne.true))

pub returns-then-not-may_join : goal.returns-then-not-may_join
returns-then-not-may_join c = ran_refused (merge_two_grants c.requires c.if-not-e.false c.if-not-f.false c.if-e-ne0.false c.if-f-ne0.false (ne_same c.ne.ensures c.if-ne.false) (sym c.may_join.ensures ∙ c.if-not-may_join.true))

pub returns : goal.returns
returns c = merge_exit_done c.requires c.if-not-e.false c.if-not-f.false c.if-e-ne0.false c.if-f-ne0.false (ne_same c.ne.ensures c.if-ne.false) (sym c.may_join.ensures ∙ c.if-not-may_join.false) c.join.ensures
