-- src/zeros.rt, slot_word: result ≡ eqb (slot_word_at t.now p.0 i.0) 0
use mathlib.Core.Path.{refl, ◌∙◌}
use Rattle.tables.specs.Laws.Spelling.{slot_word_law}
use Rattle.tables.proofs.zeros.slot_word.Goals as goal

pub returns : goal.returns
returns c = rw (c.word.ensures ∙ slot_word_law _ _ _) refl
