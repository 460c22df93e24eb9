-- src/lib.rt, meet: result ≡ meets a.0 b.0 c.0 d.0
use mathlib.Core.Path.{refl}
use borrow.Author.Tests.{lt-ltb, le-ltb}
use Rattle.tables.specs.Settle.{meets}
use Rattle.owning.proofs.meet.Goals as goal

pub returns-then-a-b : goal.returns-then-a-b
unfolding meets
returns-then-a-b c = rw (le-ltb _ _ c.if-a-b.true) refl

pub returns-then-c-d : goal.returns-then-c-d
unfolding meets
returns-then-c-d c = rw (lt-ltb _ _ c.if-a-b.false, le-ltb _ _ c.if-c-d.true) refl

pub returns-then-a-d : goal.returns-then-a-d
unfolding meets
returns-then-a-d c = rw (lt-ltb _ _ c.if-a-b.false, lt-ltb _ _ c.if-c-d.false, le-ltb _ _ c.if-a-d.true) refl

pub returns : goal.returns
unfolding meets
returns c = rw (lt-ltb _ _ c.if-a-b.false, lt-ltb _ _ c.if-c-d.false, lt-ltb _ _ c.if-a-d.false) refl
