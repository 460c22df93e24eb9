-- src/slot_word.rt, write: result ≡ writing kind self
use Rattle.std.specs.Prelude.{Ok}
use mathlib.Core.Path.{sym, ap, ◌∙◌}
use Rattle.words.specs.Laws.Kind.{write_done, write_refused}
use Rattle.words.specs.Laws.Kinds.{slot_range}
use Rattle.words.specs.Words.{slot}
use native.Mathlib.Omega.{arith}
use Rattle.words.proofs.slot_word.SlotFieldsPacked.write.Goals as goal

pub returns-then-given-ge16 : goal.returns-then-given-ge16
unfolding slot
returns-then-given-ge16 c = sym (write_refused slot c.args.self (λ h. omega arith))

pub returns-then-start-ge134217728 : goal.returns-then-start-ge134217728
unfolding slot
returns-then-start-ge134217728 c = sym (write_refused slot c.args.self (λ h. omega arith))

pub returns-then-end-ge134217728 : goal.returns-then-end-ge134217728
unfolding slot
returns-then-end-ge134217728 c = sym (write_refused slot c.args.self (λ h. omega arith))

pub returns : goal.returns
unfolding slot
returns c = let f = c.args.self in ap Ok (omega arith) ∙ sym (write_done slot f (slot_range f (omega arith) (omega arith) (omega arith)))
