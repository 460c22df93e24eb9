-- src/find_service.rt, find: Ran (find (view t.now) p.0 l.0) t.now result t.now
use Rattle.std.proofs.lemmas.Result.{err_from_is_err_and}
use mathlib.Core.Path.{sym, ◌∙◌}
use Rattle.tables.specs.Laws.Search.{lowest_some}
use Rattle.tables.specs.Laws.Answers.{looked_slot, or_err, or_ok}
use Rattle.tables.specs.Laws.Encode.{canon_is}
use Rattle.sound.specs.Laws.Settled.{right_settled, settled_words}
use Rattle.rules.specs.Rules.{find}
use Rattle.rules.specs.Laws.Ran.{ran_refused, ran_done, pass, fail, there, missing, second_is}
use Rattle.services.proofs.find_service.find.Goals as goal
use Rattle.words.specs.declared.Refusal.TheVariants.{WrongPartition, WrongLine}

pub returns-then-not-own_or_child : goal.returns-then-not-own_or_child
unfolding find
returns-then-not-own_or_child c = ran_refused (fail WrongPartition _ (sym c.own_or_child.ensures ∙ c.if-not-own_or_child.true))

pub returns-in_err-i : goal.returns-in_err-i
unfolding find
returns-in_err-i c =
    let p = err_from_is_err_and c.from_residual.result c.from_residual.ensures.1 in
    let q = or_err _ c.ok_or.ensures.value c.in_err-i.was in
    rw (p.1, p.2, q.1) (ran_refused (pass WrongPartition (sym c.own_or_child.ensures ∙ c.if-not-own_or_child.false) (missing WrongLine _ (looked_slot _ c.holding_slot-looked.ensures q.0))))

pub entry_word-w-requires : goal.entry_word-w-requires
unfolding find
entry_word-w-requires c = record { canon = c.requires.0; in_p = c.requires.1; in_i = (lowest_some 32 _ _ (looked_slot _ c.holding_slot-looked.ensures (or_ok _ _ c.ok_or.ensures.value c.in_ok-i.was))).below }

pub returns : goal.returns
unfolding find
returns c = ran_done (pass WrongPartition (sym c.own_or_child.ensures ∙ c.if-not-own_or_child.false) (there WrongLine _ _ (looked_slot _ c.holding_slot-looked.ensures (or_ok _ _ c.ok_or.ensures.value c.in_ok-i.was)) (second_is (sym c.entry_word-w.ensures)))) (settled_words (canon_is c.requires.0) (right_settled c.requires.2))
