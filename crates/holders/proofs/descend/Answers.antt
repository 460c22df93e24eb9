-- src/lib.rt, descend: (result.deepest.0 ≡ deepest (view t.now).k l.0 0 15) × (result.deepest.0 < 16) × (result.count ≡ looks_of (view t.now).k l.0)
-- `holders::descend` meets its contract: at each turn the descent from p comes to the same partition and the same sum as from the root.
use mathlib.Core.Path.{sym, ◌∙◌}
use native.Mathlib.Omega.{arith}
use Rattle.std.proofs.Math.Nat.{sub-add-eq}
use Rattle.tables.specs.Laws.Answers.{looked_count}
use Rattle.sound.proofs.Laws.Holders.{deepest_here, deepest_last}
use Rattle.sound.proofs.Laws.Looks.{looks_descent_room, looks_descent_down, looks_descent_here, looks_descent_last}
use Rattle.holders.proofs.descend.Goals as goal

pub overflow_add-sum : goal.overflow_add-sum
overflow_add-sum c = omega (arith, looks_descent_room c.loop.invariant c.look-step.ensures.2)

pub returns-then-heir-eq0 : goal.returns-then-heir-eq0
returns-then-heir-eq0 c =
    let i = c.loop.invariant in
    let h = c.look-step.ensures in
    let n = sym h.0 ∙ c.if-heir-eq0.true in
    (deepest_here _ _ _ _ n ∙ i.comes, i.small, looks_descent_here c.requires i h.2 n)

pub loop-preserved : goal.loop-preserved
loop-preserved c =
    let i = c.loop.invariant in
    let h = c.look-step.ensures in
    rw (sub-add-eq 15 c.loop.counter 1) (looks_descent_down i h.2 (λ z. omega arith) h.0 h.1 c.if-heir-eq0.false)

pub overflow_add-result : goal.overflow_add-result
overflow_add-result c = omega (arith, looks_descent_room c.loop.invariant (looked_count _ c.holding_slot-last.ensures))

pub returns : goal.returns
returns c =
    let i = c.loop.invariant in
    (deepest_last _ _ _ _ (omega arith) ∙ i.comes, i.small, looks_descent_last c.requires i (looked_count _ c.holding_slot-last.ensures) (omega arith))
