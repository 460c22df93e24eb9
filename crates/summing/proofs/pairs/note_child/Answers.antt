-- src/pairs.rt, note_child: ChildrenTo (view t.now).k (c.0 + 1) masks.new
use mathlib.Core.Path.{refl}
use borrow.Author.Tests.{not-true, not-false}
use Rattle.summing.specs.Laws.Walk.{absent_joins, root_joins, child_room, child_joins}
use native.Mathlib.Omega.{arith}
use Rattle.summing.proofs.pairs.note_child.Goals as goal

pub header-h-requires : goal.header-h-requires
header-h-requires c = c.requires.0

pub returns-then-not-h : goal.returns-then-not-h
returns-then-not-h c = absent_joins c.header-h.ensures c.requires.2 (not-true c.header-h.result.present c.if-not-h.true)

pub returns-then-c-eq0 : goal.returns-then-c-eq0
returns-then-c-eq0 c = root_joins c.header-h.ensures c.requires.2 (not-false c.header-h.result.present c.if-not-h.false) c.if-c-eq0.true

pub bounds-masks-p : goal.bounds-masks-p
bounds-masks-p c = omega (arith, c.header-h.ensures.parent_small, c.requires.2.size)

pub overflow_add-masks : goal.overflow_add-masks
overflow_add-masks c = record { fits = child_room c.header-h.ensures c.requires.2 (not-false c.header-h.result.present c.if-not-h.false) c.if-c-eq0.false c.requires.0 refl c.requires.1 }

pub bounds-masks-p-2 : goal.bounds-masks-p-2
bounds-masks-p-2 c = omega (arith, c.header-h.ensures.parent_small, c.requires.2.size)

pub returns : goal.returns
returns c = child_joins c.header-h.ensures c.requires.2 (not-false c.header-h.result.present c.if-not-h.false) c.if-c-eq0.false refl c.requires.1
