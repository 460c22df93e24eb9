-- src/lib.rt, write_pair: result ≡ writes (plain start end rights)
use native.Mathlib.Omega.{arith}
use Rattle.pairs.specs.Pair.{plain}
use Rattle.pairs.proofs.Laws.Exits.{writes_unread, writes_empty, writes_past, writes_by}
use borrow.Author.Tests.{not-true, not-false}
use Rattle.pairs.proofs.write_pair.Goals as goal

pub returns-then-not-rights : goal.returns-then-not-rights
returns-then-not-rights c = writes_unread (plain c.args.start c.args.end c.args.rights) (not-true _ c.if-not-rights.true)

pub returns-then-first-after : goal.returns-then-first-after
returns-then-first-after c = writes_empty (plain c.args.start c.args.end c.args.rights) (omega (arith, c.if-first-after.true))

pub returns-then-after-ge134217728 : goal.returns-then-after-ge134217728
returns-then-after-ge134217728 c = writes_past (plain c.args.start c.args.end c.args.rights) (omega (arith, c.if-after-ge134217728.true))

pub returns : goal.returns
returns c = writes_by (plain c.args.start c.args.end c.args.rights) c.access-reach.result c.access-reach.ensures (not-false _ c.if-not-rights.false) (omega (arith, c.if-first-after.false)) (omega (arith, c.if-after-ge134217728.false)) c.write.ensures c.parts.ensures
