-- src/zeros.rt, blank_words: result ≡ zero_blanks t.now p.0
use mathlib.Core.Path.{◌∙◌}
use Rattle.loops.specs.Laws.Oring.{or_none}
use Rattle.tables.specs.Laws.Spelling.{blank_word}
use Rattle.tables.specs.ZeroRecord.{zero_blanks}
use Rattle.tables.proofs.zeros.blank_words.Goals as goal

pub returns : goal.returns
unfolding zero_blanks
returns c = rw (← (c.word.ensures ∙ blank_word _ _ 0), ← (c.word-2.ensures ∙ blank_word _ _ 1)) (or_none c.word.result c.word-2.result)
