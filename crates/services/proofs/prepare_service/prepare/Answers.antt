-- src/prepare_service.rt, prepare: Ran (prepare (view t.old) p.0 s.0) t.old result t.new
use Rattle.std.proofs.lemmas.Result.{err_from_is_err_and}
use mathlib.Core.Path.{refl, ap, sym, ◌∙◌}
use mathlib.Core.Bool.{not}
use borrow.Author.Tests.{lt-leb, le-leb}
use Rattle.tables.specs.Laws.Encode.{is_canon}
use Rattle.tables.specs.Laws.Search.{lowest_some}
use Rattle.tables.specs.Laws.Answers.{structure_is, or_err, or_ok}
use Rattle.sound.specs.Clauses.{long}
use Rattle.rules.specs.Rules.{prepare}
use Rattle.rules.specs.Laws.Ran.{ran_refused, pass, fail, there, missing}
use Rattle.blocks.specs.Laws.Pick.{picked_no, picked_is}
use Rattle.services.specs.Laws.Unsettled.{came_structure, ran_settled}
use Rattle.services.specs.Laws.CreateExits.{prepare_is}
use Rattle.services.specs.Laws.Masked.{fixed_prepare}
use native.Mathlib.Omega.{arith}
use Rattle.services.proofs.prepare_service.prepare.Goals as goal
use Rattle.words.specs.declared.Refusal.TheVariants.{WrongPartition, NoneFree, TooShort, LentWhole}

pub returns-then-not-own_or_child : goal.returns-then-not-own_or_child
unfolding prepare long
returns-then-not-own_or_child c = ran_refused (fail WrongPartition _ (sym c.own_or_child.ensures ∙ c.if-not-own_or_child.true))

pub free_entry-requires : goal.free_entry-requires
unfolding prepare long
free_entry-requires c = c.requires.2

pub absent_structure-requires : goal.absent_structure-requires
unfolding prepare long
absent_structure-requires c = c.requires.1

pub returns-in_err-j : goal.returns-in_err-j
unfolding prepare long
returns-in_err-j c =
    let p = err_from_is_err_and c.from_residual-in_err-j.result c.from_residual-in_err-j.ensures.1 in
    let q = or_err _ c.ok_or.ensures.value c.in_err-j.was in
    rw (p.1, p.2, q.1) (ran_refused (pass WrongPartition (sym c.own_or_child.ensures ∙ c.if-not-own_or_child.false) ((picked_is c.in_ok-e.was c.free_entry.ensures).rule _ ∙ missing NoneFree _ (structure_is _ (sym q.0 ∙ c.absent_structure.ensures)))))

pub overflow_add-start : goal.overflow_add-start
unfolding prepare long
overflow_add-start c = omega (arith, (picked_is c.in_ok-e.was c.free_entry.ensures).seen.start_small)

pub returns-then-start-end : goal.returns-then-start-end
unfolding prepare long
returns-then-start-end c = ran_refused (pass WrongPartition (sym c.own_or_child.ensures ∙ c.if-not-own_or_child.false) ((picked_is c.in_ok-e.was c.free_entry.ensures).rule _ ∙ there NoneFree _ _ (structure_is _ (sym (or_ok _ _ c.ok_or.ensures.value c.in_ok-j.was) ∙ c.absent_structure.ensures)) (fail TooShort _ (lt-leb _ _ c.if-start-end.true))))

pub returns-then-e : goal.returns-then-e
unfolding prepare long
returns-then-e c = ran_refused (pass WrongPartition (sym c.own_or_child.ensures ∙ c.if-not-own_or_child.false) ((picked_is c.in_ok-e.was c.free_entry.ensures).rule _ ∙ there NoneFree _ _ (structure_is _ (sym (or_ok _ _ c.ok_or.ensures.value c.in_ok-j.was) ∙ c.absent_structure.ensures)) (pass TooShort (le-leb _ _ c.if-start-end.false) (fail LentWhole _ (ap not c.if-e.true)))))

pub up_from-above-requires : goal.up_from-above-requires
unfolding prepare long
up_from-above-requires c = c.first.ensures.current_small

pub put_structure-requires : goal.put_structure-requires
unfolding prepare long
put_structure-requires c =
    let v = (picked_is c.in_ok-e.was c.free_entry.ensures).seen in
    record { canon = c.requires.0; in_p = c.requires.1; in_j = (lowest_some 4 _ _ (structure_is _ (sym (or_ok _ _ c.ok_or.ensures.value c.in_ok-j.was) ∙ c.absent_structure.ensures))).below; present = refl; start_small = v.start_small; end_small = v.end_small }

pub settle_named-requires : goal.settle_named-requires
unfolding prepare long
settle_named-requires c =
    let number = structure_is _ (sym (or_ok _ _ c.ok_or.ensures.value c.in_ok-j.was) ∙ c.absent_structure.ensures) in (
      is_canon c.put_structure.ensures,
      came_structure _ c.requires.3 c.if-start-end.false c.requires.1 number c.put_structure.ensures,
      fixed_prepare _ c.requires.3 c.first.ensures.current_small c.up_from-above.ensures c.put_structure.ensures (λ q i. refl) c.first.ensures.current _ _
          (prepare_is (picked_is c.in_ok-e.was c.free_entry.ensures) c.if-start-end.false c.if-e.false _ (sym c.own_or_child.ensures ∙ c.if-not-own_or_child.false) number),
    )

pub returns-in_err-e : goal.returns-in_err-e
unfolding prepare long
returns-in_err-e c = let p = err_from_is_err_and c.from_residual.result c.from_residual.ensures.1 in rw (p.1, p.2) (ran_refused (pass WrongPartition (sym c.own_or_child.ensures ∙ c.if-not-own_or_child.false) (picked_no c.in_err-e.was c.free_entry.ensures _)))

pub returns : goal.returns
unfolding prepare long
returns c = ran_settled (prepare_is (picked_is c.in_ok-e.was c.free_entry.ensures) c.if-start-end.false c.if-e.false _ (sym c.own_or_child.ensures ∙ c.if-not-own_or_child.false) (structure_is _ (sym (or_ok _ _ c.ok_or.ensures.value c.in_ok-j.was) ∙ c.absent_structure.ensures))) c.put_structure.ensures c.settle_named.ensures
