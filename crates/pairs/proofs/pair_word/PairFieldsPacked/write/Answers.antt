-- src/pair_word.rt, write: result ≡ writing kind self
use Rattle.std.specs.Prelude.{Ok}
use mathlib.Core.Path.{sym, ap, ◌∙◌}
use Rattle.words.specs.Laws.Kind.{write_done, write_refused}
use Rattle.pairs.specs.Laws.Word.{pair_range}
use Rattle.pairs.specs.Word.{pair}
use native.Mathlib.Omega.{arith}
use Rattle.pairs.proofs.pair_word.PairFieldsPacked.write.Goals as goal

pub returns-then-base-ge134217728 : goal.returns-then-base-ge134217728
unfolding pair
returns-then-base-ge134217728 c = sym (write_refused pair c.args.self (λ h. omega arith))

pub returns-then-access-ge4 : goal.returns-then-access-ge4
unfolding pair
returns-then-access-ge4 c = sym (write_refused pair c.args.self (λ h. omega arith))

pub returns-then-limit-ge134217728 : goal.returns-then-limit-ge134217728
unfolding pair
returns-then-limit-ge134217728 c = sym (write_refused pair c.args.self (λ h. omega arith))

pub returns : goal.returns
unfolding pair
returns c = let f = c.args.self in ap Ok (omega arith) ∙ sym (write_done pair f (pair_range f (omega arith) (omega arith) (omega arith)))
