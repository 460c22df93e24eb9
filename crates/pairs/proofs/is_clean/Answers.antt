-- src/lib.rt, is_clean: result ≡ zeroed pair w
use Rattle.words.specs.Laws.Kind.{zeroed_sum}
use Rattle.pairs.specs.Word.{pair}
use Rattle.pairs.proofs.is_clean.Goals as goal

pub returns : goal.returns
returns c = zeroed_sum pair _ c.zero_bits.ensures
