-- src/lib.rt, free_byte: (result ≡ map_from (free (view t.now).k p.0) (8 * j) 8) × (result < 256)
use mathlib.Core.Path.{ap, ◌∙◌}
use native.Mathlib.Omega.{arith}
use borrow.Author.Tests.{not-true, not-false}
use Rattle.loops.specs.Loops.{bit_of}
use Rattle.loops.specs.Laws.Map.{map_lt, map_start, map_on, map_room, map_end}
use Rattle.tables.specs.View.{view}
use Rattle.tables.specs.Laws.Search.{structure_some, absent_free, empty_free}
use Rattle.searching.proofs.free_byte.Goals as goal

pub returns-then-not-s : goal.returns-then-not-s
returns-then-not-s c =
    let s = c.structure-s in
    (absent_free _ _ _ (rw (s.ensures.area, structure_some) (not-true s.result.present c.if-not-s.true)), omega arith)

pub loop-i-init : goal.loop-i-init
loop-i-init c = map_start

pub overflow_mul-byte : goal.overflow_mul-byte
overflow_mul-byte c = record { fits = omega (arith, map_room c.loop-i.invariant (omega arith)) }

pub overflow_add-byte : goal.overflow_add-byte
overflow_add-byte c = record { fits = omega (arith, map_room c.loop-i.invariant (omega arith), c.empty_bit.ensures.1) }

pub loop-i-preserved : goal.loop-i-preserved
loop-i-preserved c =
    let s = c.structure-s in
    let a = c.args in
    map_on c.loop-i.invariant (omega arith)
    (c.empty_bit.ensures.0
    ∙ ap bit_of (empty_free (view a.t.now).k a.p.0 a.j _
    (rw (s.ensures.area, structure_some) (not-false s.result.present c.if-not-s.false))
    (omega (arith, c.loop-i.invariant.within))))

pub returns : goal.returns
returns c = let e = map_end c.loop-i.invariant (omega arith) in (e, rw e (map_lt _ _ 8))
