-- src/regions.rt, pair_bytes: result ≡ pair_on table.now p s
use mathlib.Core.Path.{sym, ◌∙◌}
use Rattle.tables.specs.Laws.Top.{top_at}
use Rattle.board8.specs.Laws.Regions.{other_length, unsound_words, sound_words}
use borrow.Author.Rules.{rules}
use borrow.Author.Tests.{not-true, not-false}
use Rattle.board8.proofs.regions.pair_bytes.Goals as goal

pub returns-then-table-ne5128 : goal.returns-then-table-ne5128
returns-then-table-ne5128 c = other_length _ _ _ c.if-table-ne5128.true

pub is_sound-requires : goal.is_sound-requires
is_sound-requires c = top_at c.load-top.ensures.0 c.load-top.ensures.1

pub returns-then-not-is_sound : goal.returns-then-not-is_sound
returns-then-not-is_sound c = unsound_words _ _ _ c.if-table-ne5128.false c.load-top.ensures.0 (sym c.is_sound.ensures ∙ c.if-not-is_sound.true)

pub returns : goal.returns
returns c = sound_words _ _ _ c.if-table-ne5128.false c.load-top.ensures.0 (sym c.is_sound.ensures ∙ c.if-not-is_sound.false) c.pair_in.ensures
