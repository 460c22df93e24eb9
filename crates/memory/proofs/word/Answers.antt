-- src/lib.rt, word: result ≡ word_from b.now i
use Rattle.memory.specs.Laws.Quads.{word_halves}
use Rattle.memory.proofs.word.Goals as goal

pub returns : goal.returns
returns c = rw (c.turned.ensures, c.turned-2.ensures) (word_halves c.quad.ensures c.quad-2.ensures)
