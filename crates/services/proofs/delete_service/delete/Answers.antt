-- src/delete_service.rt, delete: Ran (delete (view t.old) p.0) t.old result t.new
use mathlib.Core.Path.{sym, ◌∙◌}
use Rattle.tables.specs.Laws.Encode.{is_canon}
use Rattle.rules.specs.Rules.{delete}
use Rattle.rules.specs.Laws.Ran.{ran_refused, fail}
use Rattle.isolation.proofs.Laws.Delete.{delete_done}
use Rattle.blocks.specs.Laws.GiveExits.{child_now}
use Rattle.services.specs.Laws.Unsettled.{right_gone, gone_words, gone_ungiven, gone_cleared, ran_settled}
use Rattle.services.specs.Laws.DeleteExits.{delete_parent, delete_is, deleted}
use Rattle.services.specs.Laws.Masked.{fixed_removed}
use Rattle.services.proofs.delete_service.delete.Goals as goal
use Rattle.words.specs.declared.Refusal.TheVariants.{WrongPartition}

pub is_child-requires : goal.is_child-requires
unfolding delete
is_child-requires c = c.requires.1

pub returns-then-not-is_child : goal.returns-then-not-is_child
unfolding delete
returns-then-not-is_child c = ran_refused (fail WrongPartition _ (child_now _ _ c.first.ensures.current (sym c.is_child.ensures ∙ c.if-not-is_child.true)))

pub returns-then-has_child : goal.returns-then-has_child
unfolding delete
returns-then-has_child c = delete_parent _ c.first.ensures.current (sym c.is_child.ensures ∙ c.if-not-is_child.false) (sym c.has_child.ensures ∙ c.if-has_child.true)

pub up_from-above-requires : goal.up_from-above-requires
unfolding delete
up_from-above-requires c = c.first.ensures.current_small

pub ungive-requires : goal.ungive-requires
unfolding delete
ungive-requires c = (c.requires.0, c.first.ensures.current_small)

pub clear_record-requires : goal.clear_record-requires
unfolding delete
clear_record-requires c = record { canon = is_canon c.ungive.ensures; in_p = c.requires.1 }

pub settle_named-requires : goal.settle_named-requires
unfolding delete
settle_named-requires c =
    let now = c.first.ensures.current in (
      is_canon c.clear_record.ensures,
      gone_words c.clear_record.ensures (gone_cleared (gone_words c.ungive.ensures (gone_ungiven (right_gone c.requires.2) _ _)) _),
      fixed_removed _ c.requires.2 c.first.ensures.current_small c.up_from-above.ensures now
          (delete_done c.requires.2 _ (delete_is _ _ now (sym c.is_child.ensures ∙ c.if-not-is_child.false) (sym c.has_child.ensures ∙ c.if-has_child.false))).0
          (deleted _ _ now c.ungive.ensures c.clear_record.ensures),
    )

pub returns : goal.returns
unfolding delete
returns c =
    let now = c.first.ensures.current in
    ran_settled (delete_is _ _ now (sym c.is_child.ensures ∙ c.if-not-is_child.false) (sym c.has_child.ensures ∙ c.if-has_child.false)) (deleted _ _ now c.ungive.ensures c.clear_record.ensures) c.settle_named.ensures
