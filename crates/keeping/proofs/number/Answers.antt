-- src/lib.rt, number: result ≡ get_or words.now i 0
use Rattle.keeping.proofs.number.Goals as goal

pub overflow_cast-result : goal.overflow_cast-result
overflow_cast-result c = record { fits = c.requires.small }
