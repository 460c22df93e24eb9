-- src/create_service.rt, create: Ran (create (view t.old) s.0) t.old result t.new
use Rattle.std.proofs.lemmas.Result.{err_from_is_err_and}
use mathlib.Core.Path.{refl, ap, sym, ◌∙◌}
use mathlib.Core.Bool.{not}
use borrow.Author.Tests.{lt-leb, le-leb}
use Rattle.tables.specs.Laws.Encode.{is_canon}
use Rattle.tables.specs.Laws.Search.{lowest_some}
use Rattle.tables.specs.Laws.Answers.{which_is, or_err, or_ok}
use Rattle.sound.specs.Clauses.{long}
use Rattle.rules.specs.Rules.{create}
use Rattle.rules.specs.Laws.Ran.{ran_refused, pass, fail, there, missing}
use Rattle.blocks.specs.Laws.Pick.{picked_no, picked_is}
use Rattle.services.specs.Laws.Unsettled.{came_header, ran_settled}
use Rattle.services.specs.Laws.CreateExits.{create_is}
use Rattle.services.specs.Laws.Masked.{fixed_create}
use native.Mathlib.Omega.{arith}
use Rattle.services.proofs.create_service.create.Goals as goal
use Rattle.words.specs.declared.Refusal.TheVariants.{NoneFree, TooShort, LentWhole}

pub returns-in_err-n : goal.returns-in_err-n
unfolding create long
returns-in_err-n c =
    let p = err_from_is_err_and c.from_residual-in_err-n.result c.from_residual-in_err-n.ensures.1 in
    let q = or_err _ c.ok_or.ensures.value c.in_err-n.was in
    rw (p.1, p.2, q.1) (ran_refused ((picked_is c.in_ok-e.was c.free_entry.ensures).rule _ ∙ missing NoneFree _ (which_is _ (sym q.0 ∙ c.absent_partition.ensures))))

pub overflow_add-start : goal.overflow_add-start
unfolding create long
overflow_add-start c = omega (arith, (picked_is c.in_ok-e.was c.free_entry.ensures).seen.start_small)

pub returns-then-start-end : goal.returns-then-start-end
unfolding create long
returns-then-start-end c = ran_refused ((picked_is c.in_ok-e.was c.free_entry.ensures).rule _ ∙ there NoneFree _ _ (which_is _ (sym (or_ok _ _ c.ok_or.ensures.value c.in_ok-n.was) ∙ c.absent_partition.ensures)) (fail TooShort _ (lt-leb _ _ c.if-start-end.true)))

pub returns-then-e : goal.returns-then-e
unfolding create long
returns-then-e c = ran_refused ((picked_is c.in_ok-e.was c.free_entry.ensures).rule _ ∙ there NoneFree _ _ (which_is _ (sym (or_ok _ _ c.ok_or.ensures.value c.in_ok-n.was) ∙ c.absent_partition.ensures)) (pass TooShort (le-leb _ _ c.if-start-end.false) (fail LentWhole _ (ap not c.if-e.true))))

pub up_from-above-requires : goal.up_from-above-requires
unfolding create long
up_from-above-requires c = c.first.ensures.current_small

pub put_header-requires : goal.put_header-requires
unfolding create long
put_header-requires c =
    let v = (picked_is c.in_ok-e.was c.free_entry.ensures).seen in
    record { canon = c.requires.0; in_p = omega (arith, (lowest_some 16 _ _ (which_is _ (sym (or_ok _ _ c.ok_or.ensures.value c.in_ok-n.was) ∙ c.absent_partition.ensures))).below); present = refl; parent_small = c.first.ensures.current_small; start_small = v.start_small; end_small = v.end_small }

pub settle_named-requires : goal.settle_named-requires
unfolding create long
settle_named-requires c =
    let number = which_is _ (sym (or_ok _ _ c.ok_or.ensures.value c.in_ok-n.was) ∙ c.absent_partition.ensures) in
    let now = c.first.ensures.current in (
      is_canon c.put_header.ensures,
      came_header _ c.requires.2 c.if-start-end.false _ number c.put_header.ensures,
      fixed_create _ c.requires.2 c.first.ensures.current_small c.up_from-above.ensures c.put_header.ensures (λ q i. refl) now _
          (create_is (picked_is c.in_ok-e.was c.free_entry.ensures) c.if-start-end.false c.if-e.false number now),
    )

pub returns-in_err-e : goal.returns-in_err-e
unfolding create long
returns-in_err-e c = let p = err_from_is_err_and c.from_residual.result c.from_residual.ensures.1 in rw (p.1, p.2) (ran_refused (picked_no c.in_err-e.was c.free_entry.ensures _))

pub returns : goal.returns
unfolding create long
returns c = ran_settled (create_is (picked_is c.in_ok-e.was c.free_entry.ensures) c.if-start-end.false c.if-e.false (which_is _ (sym (or_ok _ _ c.ok_or.ensures.value c.in_ok-n.was) ∙ c.absent_partition.ensures)) c.first.ensures.current) c.put_header.ensures c.settle_named.ensures
