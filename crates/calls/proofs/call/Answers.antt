-- src/lib.rt, call: CallAnswers board t.old word result t.new
use Rattle.tables.specs.Laws.Top.{top_16}
use Rattle.sound.proofs.Laws.Holders.{wrong_length}
use Rattle.rules.specs.Laws.Calls.{answers_unsound}
use Rattle.rules.specs.Laws.Reads.{answers_copied, answers_left}
use Rattle.calls.proofs.call.Goals as goal

pub returns-then-t-ne641 : goal.returns-then-t-ne641
returns-then-t-ne641 c = answers_unsound _ _ _ (wrong_length _ _ c.if-t-ne641.true)

pub copy_in-requires : goal.copy_in-requires
copy_in-requires c = c.if-t-ne641.false

pub call_table-answer-requires : goal.call_table-answer-requires
call_table-answer-requires c = top_16 _

pub returns-then-answer : goal.returns-then-answer
returns-then-answer c = answers_left c.copy_in.ensures c.call_table-answer.ensures (record { small = λ i. (c.slice_known-1.given i).fits }) c.if-answer.true

pub copy_out-requires : goal.copy_out-requires
copy_out-requires c = c.if-t-ne641.false

pub returns : goal.returns
returns c = answers_copied c.copy_in.ensures c.call_table-answer.ensures c.copy_out.ensures
