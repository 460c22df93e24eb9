-- src/first_word.rt, write: result ≡ writing kind self
use Rattle.std.specs.Prelude.{Ok}
use mathlib.Core.Path.{sym, ap, ◌∙◌}
use Rattle.words.specs.Laws.Kind.{write_done, write_refused}
use Rattle.words.specs.Laws.Kinds.{first_range}
use Rattle.words.specs.Words.{first}
use native.Mathlib.Omega.{arith}
use Rattle.words.proofs.first_word.FirstFieldsPacked.write.Goals as goal

pub returns-then-base-ge134217728 : goal.returns-then-base-ge134217728
unfolding first
returns-then-base-ge134217728 c = sym (write_refused first c.args.self (λ h. omega arith))

pub returns-then-end-ge134217728 : goal.returns-then-end-ge134217728
unfolding first
returns-then-end-ge134217728 c = sym (write_refused first c.args.self (λ h. omega arith))

pub returns-then-current-ge16 : goal.returns-then-current-ge16
unfolding first
returns-then-current-ge16 c = sym (write_refused first c.args.self (λ h. omega arith))

pub returns : goal.returns
unfolding first
returns c = let f = c.args.self in ap Ok (omega arith) ∙ sym (write_done first f (first_range f (omega arith) (omega arith) (omega arith)))
