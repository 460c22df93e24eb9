-- src/lists.rt, pieces_bytes: PiecesLent board table.now partition slot list.old result list.new
use mathlib.Core.Path.{refl, sym, subst}
use native.Mathlib.Omega.{arith}
use Rattle.tables.specs.Laws.Top.{top_at}
use Rattle.face.specs.Lists.{Small}
use Rattle.face.specs.Laws.Lists.{pieces_lent_none, pieces_lent, pieces_answers}
use Rattle.face.proofs.lists.pieces_bytes.Goals as goal

pub answer_word-requires : goal.answer_word-requires
answer_word-requires c = omega arith

pub returns-then-table-ne5128 : goal.returns-then-table-ne5128
returns-then-table-ne5128 c = pieces_lent_none _ c.if-table-ne5128.true c.answer_word.ensures

pub load-top-requires : goal.load-top-requires
load-top-requires c = (c.if-table-ne5128.false, refl)

pub pieces_table-outcome-requires : goal.pieces_table-outcome-requires
pieces_table-outcome-requires c = top_at c.load-top.ensures.0 c.load-top.ensures.1

pub answer_word-requires-2 : goal.answer_word-requires-2
answer_word-requires-2 c = subst Small (sym c.pieces_table-outcome.ensures.outcome) (pieces_answers _ _ _ _ _)

pub returns : goal.returns
returns c = pieces_lent _ c.if-table-ne5128.false c.load-top.ensures.0 c.pieces_table-outcome.ensures c.answer_word-2.ensures
