-- src/lib.rt, holds_line: result ≡ holds l.0 ((view t.now).k.slot p.0 i.0)
use mathlib.Core.Path.{refl}
use borrow.Author.Tests.{not-true, not-false, le-leb, lt-leb}
use Rattle.tables.specs.View.{entry_in}
use Rattle.tables.specs.Search.{holds}
use Rattle.searching.proofs.holds_line.Goals as goal

pub returns-then-not-f : goal.returns-then-not-f
unfolding holds entry_in
returns-then-not-f c = let e = c.entry-f in rw (e.ensures.slot, not-true e.result.present c.if-not-f.true) refl

pub returns-then-f-l : goal.returns-then-f-l
unfolding holds entry_in
returns-then-f-l c =
    let e = c.entry-f in
    rw (e.ensures.slot, not-false e.result.present c.if-not-f.false, lt-leb _ _ c.if-f-l.true) refl

pub returns : goal.returns
unfolding holds entry_in
returns c =
    let e = c.entry-f in
    rw (e.ensures.slot, not-false e.result.present c.if-not-f.false, le-leb _ _ c.if-f-l.false) refl
