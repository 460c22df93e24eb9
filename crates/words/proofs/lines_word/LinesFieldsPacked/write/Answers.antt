-- src/lines_word.rt, write: result ≡ writing kind self
use Rattle.std.specs.Prelude.{Ok}
use mathlib.Core.Path.{sym, ap, ◌∙◌}
use Rattle.words.specs.Laws.Kind.{write_done, write_refused}
use Rattle.words.specs.Laws.Kinds.{lines_range}
use Rattle.words.specs.Words.{lines}
use native.Mathlib.Omega.{arith}
use Rattle.words.proofs.lines_word.LinesFieldsPacked.write.Goals as goal

pub returns-then-held-ge134217728 : goal.returns-then-held-ge134217728
unfolding lines
returns-then-held-ge134217728 c = sym (write_refused lines c.args.self (λ h. omega arith))

pub returns-then-opened-ge134217728 : goal.returns-then-opened-ge134217728
unfolding lines
returns-then-opened-ge134217728 c = sym (write_refused lines c.args.self (λ h. omega arith))

pub returns : goal.returns
unfolding lines
returns c = let f = c.args.self in ap Ok (omega arith) ∙ sym (write_done lines f (lines_range f (omega arith) (omega arith)))
