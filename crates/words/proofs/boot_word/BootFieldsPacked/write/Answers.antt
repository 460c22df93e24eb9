-- src/boot_word.rt, write: result ≡ writing kind self
use Rattle.std.specs.Prelude.{Ok}
use mathlib.Core.Path.{sym, ap, ◌∙◌}
use Rattle.words.specs.Laws.Kind.{write_done, write_refused}
use Rattle.words.specs.Laws.Kinds.{boot_range}
use Rattle.words.specs.Words.{boot}
use native.Mathlib.Omega.{arith}
use Rattle.words.proofs.boot_word.BootFieldsPacked.write.Goals as goal

pub returns-then-base-ge134217728 : goal.returns-then-base-ge134217728
unfolding boot
returns-then-base-ge134217728 c = sym (write_refused boot c.args.self (λ h. omega arith))

pub returns-then-end-ge134217728 : goal.returns-then-end-ge134217728
unfolding boot
returns-then-end-ge134217728 c = sym (write_refused boot c.args.self (λ h. omega arith))

pub returns : goal.returns
unfolding boot
returns c = let f = c.args.self in ap Ok (omega arith) ∙ sym (write_done boot f (boot_range f (omega arith) (omega arith)))
