-- src/lib.rt, call_table: CallAnswers board t.old word result t.new
use mathlib.Core.Path.{sym, ◌∙◌}
use Rattle.rules.specs.Laws.Calls.{answers_unsound}
use Rattle.calls.proofs.call_table.Goals as goal

pub is_sound-requires : goal.is_sound-requires
is_sound-requires c = c.requires

pub returns-then-not-is_sound : goal.returns-then-not-is_sound
returns-then-not-is_sound c = answers_unsound _ _ _ (sym c.is_sound.ensures ∙ c.if-not-is_sound.true)

pub serve_word-requires : goal.serve_word-requires
serve_word-requires c = sym c.is_sound.ensures ∙ c.if-not-is_sound.false

pub returns : goal.returns
returns c = c.serve_word.ensures
