-- src/structure_word.rt, write: result ≡ writing kind self
use Rattle.std.specs.Prelude.{Ok}
use mathlib.Core.Path.{sym, ap, ◌∙◌}
use Rattle.words.specs.Laws.Kind.{write_done, write_refused}
use Rattle.words.specs.Laws.Kinds.{structure_range}
use Rattle.words.specs.Words.{structure}
use native.Mathlib.Omega.{arith}
use Rattle.words.proofs.structure_word.StructureFieldsPacked.write.Goals as goal

pub returns-then-start-ge134217728 : goal.returns-then-start-ge134217728
unfolding structure
returns-then-start-ge134217728 c = sym (write_refused structure c.args.self (λ h. omega arith))

pub returns-then-end-ge134217728 : goal.returns-then-end-ge134217728
unfolding structure
returns-then-end-ge134217728 c = sym (write_refused structure c.args.self (λ h. omega arith))

pub returns : goal.returns
unfolding structure
returns c = let f = c.args.self in ap Ok (omega arith) ∙ sym (write_done structure f (structure_range f (omega arith) (omega arith)))
