-- src/header_word.rt, write: result ≡ writing kind self
use Rattle.std.specs.Prelude.{Ok}
use mathlib.Core.Path.{sym, ap, ◌∙◌}
use Rattle.words.specs.Laws.Kind.{write_done, write_refused}
use Rattle.words.specs.Laws.Kinds.{header_range}
use Rattle.words.specs.Words.{header}
use native.Mathlib.Omega.{arith}
use Rattle.words.proofs.header_word.HeaderFieldsPacked.write.Goals as goal

pub returns-then-parent-ge16 : goal.returns-then-parent-ge16
unfolding header
returns-then-parent-ge16 c = sym (write_refused header c.args.self (λ h. omega arith))

pub returns-then-start-ge134217728 : goal.returns-then-start-ge134217728
unfolding header
returns-then-start-ge134217728 c = sym (write_refused header c.args.self (λ h. omega arith))

pub returns-then-end-ge134217728 : goal.returns-then-end-ge134217728
unfolding header
returns-then-end-ge134217728 c = sym (write_refused header c.args.self (λ h. omega arith))

pub returns : goal.returns
unfolding header
returns c = let f = c.args.self in ap Ok (omega arith) ∙ sym (write_done header f (header_range f (omega arith) (omega arith) (omega arith)))
