-- src/collect_service.rt, collect: Ran (collect (view t.old) p.0 j) t.old result t.new
use mathlib.Core.Path.{refl, sym, ◌∙◌}
use borrow.Author.Tests.{not-true, not-false}
use Rattle.tables.specs.Laws.Encode.{is_canon}
use Rattle.rules.specs.Rules.{collect}
use Rattle.rules.specs.Laws.Ran.{ran_refused, pass, fail}
use Rattle.services.specs.Laws.Unsettled.{right_gone, gone_words, gone_structure, ran_settled}
use Rattle.services.specs.Laws.CollectExits.{no_such, structure_there, occupied_exit, root_first, not_root_first, collect_is}
use Rattle.services.specs.Laws.Masked.{fixed_collect}
use native.Mathlib.Omega.{arith}
use Rattle.services.proofs.collect_service.collect.Goals as goal
use Rattle.words.specs.declared.Refusal.TheVariants.{WrongPartition, NoEntry, InUse}

pub returns-then-not-own_or_child : goal.returns-then-not-own_or_child
unfolding collect
returns-then-not-own_or_child c = ran_refused (fail WrongPartition _ (sym c.own_or_child.ensures ∙ c.if-not-own_or_child.true))

pub returns-then-j-ge4 : goal.returns-then-j-ge4
unfolding collect
returns-then-j-ge4 c = ran_refused (pass WrongPartition (sym c.own_or_child.ensures ∙ c.if-not-own_or_child.false) (fail NoEntry _ (no_such _ _ c.if-j-ge4.true)))

pub structure-f-requires : goal.structure-f-requires
unfolding collect
structure-f-requires c = (c.requires.1, c.if-j-ge4.false)

pub returns-then-not-f : goal.returns-then-not-f
unfolding collect
returns-then-not-f c = ran_refused (pass WrongPartition (sym c.own_or_child.ensures ∙ c.if-not-own_or_child.false) (fail NoEntry _ (structure_there c.structure-f.ensures c.if-j-ge4.false (not-true _ c.if-not-f.true))))

pub vacant-requires : goal.vacant-requires
unfolding collect
vacant-requires c = (c.requires.1, c.if-j-ge4.false)

pub returns-then-not-vacant : goal.returns-then-not-vacant
unfolding collect
returns-then-not-vacant c = ran_refused (pass WrongPartition (sym c.own_or_child.ensures ∙ c.if-not-own_or_child.false) (pass NoEntry (structure_there c.structure-f.ensures c.if-j-ge4.false (not-false _ c.if-not-f.false)) (fail InUse _ (occupied_exit c.args.p.0 c.args.j (sym c.vacant.ensures ∙ c.if-not-vacant.true)))))

pub overflow_add-p : goal.overflow_add-p
unfolding collect
overflow_add-p c = omega (arith, c.requires.1, c.if-j-ge4.false)

pub returns-then-p-j-eq0 : goal.returns-then-p-j-eq0
unfolding collect
returns-then-p-j-eq0 c = ran_refused (pass WrongPartition (sym c.own_or_child.ensures ∙ c.if-not-own_or_child.false) (pass NoEntry (structure_there c.structure-f.ensures c.if-j-ge4.false (not-false _ c.if-not-f.false)) (fail InUse _ (root_first _ _ (sym c.vacant.ensures ∙ c.if-not-vacant.false) c.if-p-j-eq0.true))))

pub up_from-above-requires : goal.up_from-above-requires
unfolding collect
up_from-above-requires c = c.requires.1

pub clear_structure-requires : goal.clear_structure-requires
unfolding collect
clear_structure-requires c = record { canon = c.requires.0; in_p = c.requires.1; in_i = c.if-j-ge4.false }

pub settle_named-requires : goal.settle_named-requires
unfolding collect
settle_named-requires c =
    let vacant = sym c.vacant.ensures ∙ c.if-not-vacant.false in (
      is_canon c.clear_structure.ensures,
      gone_words c.clear_structure.ensures (gone_structure (right_gone c.requires.2) _ _ vacant),
      fixed_collect _ c.requires.2 c.requires.1 c.up_from-above.ensures c.clear_structure.ensures (λ q i. refl) c.args.j
          (collect_is _ _ _ (sym c.own_or_child.ensures ∙ c.if-not-own_or_child.false) (structure_there c.structure-f.ensures c.if-j-ge4.false (not-false _ c.if-not-f.false)) (not_root_first _ _ vacant c.if-p-j-eq0.false)),
    )

pub returns : goal.returns
unfolding collect
returns c = ran_settled (collect_is _ _ _ (sym c.own_or_child.ensures ∙ c.if-not-own_or_child.false) (structure_there c.structure-f.ensures c.if-j-ge4.false (not-false _ c.if-not-f.false)) (not_root_first _ _ (sym c.vacant.ensures ∙ c.if-not-vacant.false) c.if-p-j-eq0.false)) c.clear_structure.ensures c.settle_named.ensures
