-- src/regions.rt, pair_in: result ≡ entry_pair ((view t.now).k.slot p s)
use mathlib.Core.Path.{◌∙◌}
use native.Mathlib.Omega.{arith}
use Rattle.board8.specs.Laws.Regions.{no_slot, no_entry_pair, is_entry_pair}
use borrow.Author.Rules.{rules}
use borrow.Author.Tests.{not-true, not-false}
use Rattle.board8.proofs.regions.pair_in.Goals as goal

pub returns-then-p-gt15 : goal.returns-then-p-gt15
returns-then-p-gt15 c = no_slot _ _ _ (λ a b. omega arith)

pub returns-then-s-gt31 : goal.returns-then-s-gt31
returns-then-s-gt31 c = no_slot _ _ _ (λ a b. omega arith)

pub returns-then-not-f : goal.returns-then-not-f
returns-then-not-f c = no_entry_pair c.entry-f.ensures (not-true _ c.if-not-f.true)

pub returns : goal.returns
returns c = c.write_pair.ensures ∙ is_entry_pair c.entry-f.ensures (not-false _ c.if-not-f.false)
