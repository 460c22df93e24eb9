-- src/zeros.rt, regions_bits: result ≡ zeroed regions (regions_word_at t.now p.0)
use mathlib.Core.Path.{◌∙◌}
use Rattle.tables.specs.Laws.Spelling.{regions_word_law}
use Rattle.tables.proofs.zeros.regions_bits.Goals as goal

pub returns : goal.returns
returns c = rw (← (c.word.ensures ∙ regions_word_law _ _)) c.no_zero_bit.ensures
