-- src/zeros.rt, first_bits: result ≡ zeroed first (first_word t.now)
use Rattle.words.specs.Laws.Kind.{zeroed_sum}
use Rattle.words.specs.Words.{first}
use Rattle.tables.specs.View.{first_word}
use Rattle.tables.proofs.zeros.first_bits.Goals as goal

pub returns : goal.returns
unfolding first_word
returns c = zeroed_sum first _ c.zero_bits.ensures
