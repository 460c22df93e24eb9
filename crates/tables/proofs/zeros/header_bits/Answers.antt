-- src/zeros.rt, header_bits: result ≡ zeroed header (area_word_at t.now p.0 0)
use mathlib.Core.Path.{◌∙◌}
use Rattle.words.specs.Laws.Kind.{zeroed_sum}
use Rattle.words.specs.Words.{header}
use Rattle.tables.specs.Laws.Spelling.{area_word}
use Rattle.tables.proofs.zeros.header_bits.Goals as goal

pub returns : goal.returns
returns c = rw (← (c.word.ensures ∙ area_word _ _ 0)) (zeroed_sum header _ c.zero_bits.ensures)
