-- src/sums.rt, open_lines: result ≡ cond f.opened (number_of_lines (entry_in f)) 0
use mathlib.Core.Path.{refl, ◌∙◌}
use borrow.Author.Tests.{not-true, not-false}
use Rattle.summing.specs.Laws.Sums.{open_is}
use Rattle.summing.proofs.sums.open_lines.Goals as goal

pub returns-then-not-f : goal.returns-then-not-f
returns-then-not-f c = rw (not-true c.args.f.opened c.if-not-f.true) refl

pub lines-requires : goal.lines-requires
lines-requires c = c.requires

pub returns : goal.returns
returns c = c.lines.ensures ∙ open_is _ _ (not-false c.args.f.opened c.if-not-f.false)
