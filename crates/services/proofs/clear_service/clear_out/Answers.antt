-- src/clear_service.rt, clear_out: Ran (clear_out (view t.old) p.0) t.old result t.new
use mathlib.Core.Path.{sym, ◌∙◌}
use Rattle.tables.specs.Laws.Encode.{is_canon}
use Rattle.rules.specs.Rules.{clear_out}
use Rattle.rules.specs.Laws.Ran.{ran_refused, fail}
use Rattle.isolation.proofs.Laws.ClearOut.{branch_goes, clear_done}
use Rattle.blocks.specs.Laws.GiveExits.{child_now}
use Rattle.services.specs.Laws.Unsettled.{right_gone, gone_words, gone_ungiven, gone_branch, ran_settled}
use Rattle.services.specs.Laws.ClearExits.{ungiven_child, clear_is, cleared_out}
use Rattle.services.specs.Laws.Masked.{fixed_removed}
use Rattle.services.proofs.clear_service.clear_out.Goals as goal
use Rattle.words.specs.declared.Refusal.TheVariants.{WrongPartition}

pub returns-then-not-is_child : goal.returns-then-not-is_child
unfolding clear_out
returns-then-not-is_child c = ran_refused (fail WrongPartition _ (child_now _ _ c.first.ensures.current (sym c.is_child.ensures ∙ c.if-not-is_child.true)))

pub clear_partition-n-requires : goal.clear_partition-n-requires
unfolding clear_out
clear_partition-n-requires c =
    let (n, there) = ungiven_child _ _ c.first.ensures.current (sym c.is_child.ensures ∙ c.if-not-is_child.false) c.ungive.ensures in
    (is_canon c.ungive.ensures, c.requires.1, n, there)

pub settle_named-requires : goal.settle_named-requires
unfolding clear_out
settle_named-requires c =
    let now = c.first.ensures.current in
    let is = sym c.is_child.ensures ∙ c.if-not-is_child.false in (
      is_canon c.clear_partition-n.ensures.is,
      gone_branch c.clear_partition-n.ensures (gone_words c.ungive.ensures (gone_ungiven (right_gone c.requires.2) _ _)),
      fixed_removed _ c.requires.2 c.first.ensures.current_small c.up_from-above.ensures now
          (branch_goes c.requires.2.core (clear_done c.requires.2 _ (clear_is _ _ now is c.ungive.ensures c.clear_partition-n.ensures)).0)
          (cleared_out _ _ now is c.ungive.ensures c.clear_partition-n.ensures),
    )

pub returns : goal.returns
unfolding clear_out
returns c =
    let now = c.first.ensures.current in
    let is = sym c.is_child.ensures ∙ c.if-not-is_child.false in
    ran_settled (clear_is _ _ now is c.ungive.ensures c.clear_partition-n.ensures) (cleared_out _ _ now is c.ungive.ensures c.clear_partition-n.ensures) c.settle_named.ensures
