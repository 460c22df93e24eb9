-- src/zeros.rt, structure_bits: result ≡ zeroed structure (area_word_at t.now p.0 (1 + j))
use mathlib.Core.Path.{◌∙◌}
use Rattle.words.specs.Laws.Kind.{zeroed_sum}
use Rattle.words.specs.Words.{structure}
use Rattle.tables.specs.Laws.Spelling.{area_word}
use Rattle.tables.proofs.zeros.structure_bits.Goals as goal

pub returns : goal.returns
returns c = rw (← (c.word.ensures ∙ area_word _ _ _)) (zeroed_sum structure _ c.zero_bits.ensures)
