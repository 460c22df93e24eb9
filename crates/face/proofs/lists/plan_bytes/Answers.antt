-- src/lists.rt, plan_bytes: (result ≡ ready_of board table.now size) × (words.new ≡ left_of board table.now)
use mathlib.Core.Path.{ap, sym, subst, ◌∙◌}
use mathlib.Core.List.{List}
use Prim.Native.Nat.{ℕ}
use native.Mathlib.Omega.{arith}
use Rattle.tables.specs.Laws.Top.{top_at}
use Rattle.runlist.specs.declared.Plan.{Plan}
use Rattle.runlist.specs.Listing.{plan_of, marks_in}
use Rattle.face.specs.Face.{result_of}
use Rattle.face.specs.Lists.{Small}
use Rattle.face.specs.Laws.Lists.{ready_none, ready_plan, plan_answers}
use Rattle.face.proofs.lists.plan_bytes.Goals as goal

pub returns-then-table-ne5128 : goal.returns-then-table-ne5128
unfolding result_of
returns-then-table-ne5128 c = rw c.refused.ensures (ready_none _ _ _ (λ z. omega (arith, z)) c.requires)

pub load-top-requires : goal.load-top-requires
unfolding result_of
load-top-requires c = (omega arith, c.requires)

pub plan_of-p-requires : goal.plan_of-p-requires
unfolding result_of
plan_of-p-requires c = top_at c.load-top.ensures.0 c.load-top.ensures.1

pub answer_word-answer-requires : goal.answer_word-answer-requires
unfolding result_of
answer_word-answer-requires c = subst (λ (p : Plan). Small p.outcome) (sym c.plan_of-p.ensures.0) (plan_answers _ _ _)

pub returns : goal.returns
unfolding result_of
returns c = ready_plan _ _ _ c.if-table-ne5128.false (c.plan_of-p.ensures.0 ∙ ap (λ (l : List ℕ). plan_of c.args.board l c.args.size) c.load-top.ensures.0) (c.plan_of-p.ensures.1 ∙ ap (marks_in c.args.board) c.load-top.ensures.0) c.answer_word-answer.ensures
