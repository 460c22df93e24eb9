-- src/mark_word.rt, write: result ≡ writing kind self
use Rattle.std.specs.Prelude.{Ok}
use mathlib.Core.Path.{sym, ap, ◌∙◌}
use Rattle.words.specs.Laws.Kind.{write_done, write_refused}
use Rattle.words.specs.Laws.Kinds.{mark_range}
use Rattle.words.specs.Words.{mark}
use native.Mathlib.Omega.{arith}
use Rattle.words.proofs.mark_word.MarkFieldsPacked.write.Goals as goal

pub returns-then-line-ge134217728 : goal.returns-then-line-ge134217728
unfolding mark
returns-then-line-ge134217728 c = sym (write_refused mark c.args.self (λ h. omega arith))

pub returns-then-holder-ge16 : goal.returns-then-holder-ge16
unfolding mark
returns-then-holder-ge16 c = sym (write_refused mark c.args.self (λ h. omega arith))

pub returns : goal.returns
unfolding mark
returns c = let f = c.args.self in ap Ok (omega arith) ∙ sym (write_done mark f (mark_range f (omega arith) (omega arith)))
