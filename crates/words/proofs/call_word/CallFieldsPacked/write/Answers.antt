-- src/call_word.rt, write: result ≡ writing kind self
use Rattle.std.specs.Prelude.{Ok}
use mathlib.Core.Path.{sym, ap, ◌∙◌}
use Rattle.words.specs.Laws.Kind.{write_done, write_refused}
use Rattle.words.specs.Laws.Kinds.{call_range}
use Rattle.words.specs.Words.{call}
use native.Mathlib.Omega.{arith}
use Rattle.words.proofs.call_word.CallFieldsPacked.write.Goals as goal

pub returns-then-service-ge16 : goal.returns-then-service-ge16
unfolding call
returns-then-service-ge16 c = sym (write_refused call c.args.self (λ h. omega arith))

pub returns-then-partition-ge16 : goal.returns-then-partition-ge16
unfolding call
returns-then-partition-ge16 c = sym (write_refused call c.args.self (λ h. omega arith))

pub returns-then-slot-ge32 : goal.returns-then-slot-ge32
unfolding call
returns-then-slot-ge32 c = sym (write_refused call c.args.self (λ h. omega arith))

pub returns-then-other-ge32 : goal.returns-then-other-ge32
unfolding call
returns-then-other-ge32 c = sym (write_refused call c.args.self (λ h. omega arith))

pub returns-then-line-ge134217728 : goal.returns-then-line-ge134217728
unfolding call
returns-then-line-ge134217728 c = sym (write_refused call c.args.self (λ h. omega arith))

pub returns : goal.returns
unfolding call
returns c = let f = c.args.self in ap Ok (omega arith) ∙ sym (write_done call f (call_range f (omega arith) (omega arith) (omega arith) (omega arith) (omega arith)))
