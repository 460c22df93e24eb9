-- src/zeros.rt, structure_word: result ≡ eqb (area_word_at t.now p.0 (1 + j)) 0
use mathlib.Core.Path.{refl, ◌∙◌}
use Rattle.tables.specs.Laws.Spelling.{area_word}
use Rattle.tables.proofs.zeros.structure_word.Goals as goal

pub returns : goal.returns
returns c = rw (c.word.ensures ∙ area_word _ _ _) refl
