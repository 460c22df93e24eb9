-- src/masks_word.rt, write: result ≡ writing kind self
use Rattle.std.specs.Prelude.{Ok}
use mathlib.Core.Path.{sym, ap, ◌∙◌}
use Rattle.words.specs.Laws.Kind.{write_done, write_refused}
use Rattle.words.specs.Laws.Kinds.{masks_range}
use Rattle.words.specs.Words.{masks}
use native.Mathlib.Omega.{arith}
use Rattle.words.proofs.masks_word.MasksFieldsPacked.write.Goals as goal

pub returns-then-children-ge65536 : goal.returns-then-children-ge65536
unfolding masks
returns-then-children-ge65536 c = sym (write_refused masks c.args.self (λ h. omega arith))

pub returns-then-structures-ge16 : goal.returns-then-structures-ge16
unfolding masks
returns-then-structures-ge16 c = sym (write_refused masks c.args.self (λ h. omega arith))

pub returns : goal.returns
unfolding masks
returns c = let f = c.args.self in ap Ok (omega arith) ∙ sym (write_done masks f (masks_range f (omega arith) (omega arith) (omega arith)))
