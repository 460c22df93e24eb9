-- src/zeros.rt, regions_word: result ≡ eqb (regions_word_at t.now p.0) 0
use mathlib.Core.Path.{refl, ◌∙◌}
use Rattle.tables.specs.Laws.Spelling.{regions_word_law}
use Rattle.tables.proofs.zeros.regions_word.Goals as goal

pub returns : goal.returns
returns c = rw (c.word.ensures ∙ regions_word_law _ _) refl
