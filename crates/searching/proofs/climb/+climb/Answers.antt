-- src/climb.rt, climb: WentUp (view t.now).k.parent p.0 steps way.old result way.new
use native.Mathlib.Omega.{arith}
use borrow.Author.Rules.{rules}
use Rattle.tables.specs.Laws.WayUp.{room_fits, room_step, up_root, up_lost, up_step}
use Rattle.searching.proofs.climb.+climb.Goals as goal

pub overflow_mul-way : goal.overflow_mul-way
overflow_mul-way t c = let b = room_fits c.requires.1 in search rules

pub returns-then-p-eq0 : goal.returns-then-p-eq0
returns-then-p-eq0 t c = up_root c.if-p-eq0.true

pub returns-then-steps-eq0 : goal.returns-then-steps-eq0
returns-then-steps-eq0 t c = up_lost c.if-p-eq0.false c.if-steps-eq0.true

pub overflow_mul-way-2 : goal.overflow_mul-way-2
overflow_mul-way-2 t c = let b = room_fits c.requires.1 in search rules

pub overflow_add-way : goal.overflow_add-way
overflow_add-way t c = let b = room_fits c.requires.1 in search rules

pub climb-requires : goal.climb-requires
climb-requires t c = (omega arith, (c.header-h.ensures.parent_small, room_step c.requires.1 c.if-steps-eq0.false c.requires.0))

pub returns : goal.returns
returns t c = up_step c.if-p-eq0.false c.if-steps-eq0.false c.header-h.ensures.parent c.climb.ensures
