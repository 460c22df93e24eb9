-- src/facts.rt, entry: result ≡ entry_numbers board p.0 s.0 (entry_of f) f.opened
use Rattle.who.specs.Laws.Who.{entry_numbers_law}
use native.Mathlib.Omega.{arith}
use Rattle.who.proofs.facts.entry.Goals as goal

pub returns : goal.returns
returns c = entry_numbers_law _ _ _ _ _ (omega arith) (omega arith) (omega arith) (omega arith) (omega arith) c.piece_count-pieces.ensures.0
