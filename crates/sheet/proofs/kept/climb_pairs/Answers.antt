-- src/kept.rt, climb_pairs: sheet.new ≡ put_those (above (view t.now).k p.0) (view t.now) sheet.old
use mathlib.Core.Path.{sym, ◌∙◌}
use Rattle.sheet.specs.Laws.Those.{pair_with, rise_start, now_size, rise_end, rise_on}
use native.Mathlib.Omega.{arith}
use Rattle.summing.specs.Laws.Written.{children_few}
use Rattle.sheet.proofs.kept.climb_pairs.Goals as goal

pub loop-init : goal.loop-init
loop-init c = let asked = c.requires in rise_start asked.3.core asked.0 asked.2

pub mask_of-children-requires : goal.mask_of-children-requires
mask_of-children-requires c = (c.loop.invariant.small, c.requires.1.size)

pub put_pair-requires : goal.put_pair-requires
put_pair-requires c =
    let inv = c.loop.invariant in
    let asked = c.requires in
    (inv.small, children_few _ _ (c.mask_of-children.ensures ∙ asked.1.at _ inv.small), inv.size, asked.3)

pub shape_of-sheet-then-q-eq0 : goal.shape_of-sheet-then-q-eq0
shape_of-sheet-then-q-eq0 c =
    let asked = c.requires in
    now_size asked.3.core asked.0 c.loop.invariant (pair_with asked.3 _ _ (c.mask_of-children.ensures ∙ asked.1.at _ c.loop.invariant.small) c.put_pair.ensures) ∙ sym asked.2

pub returns-then-q-eq0 : goal.returns-then-q-eq0
returns-then-q-eq0 c =
    let asked = c.requires in
    rise_end asked.3.core asked.0 c.loop.invariant (pair_with asked.3 _ _ (c.mask_of-children.ensures ∙ asked.1.at _ c.loop.invariant.small) c.put_pair.ensures) c.if-q-eq0.true

pub header-h-requires : goal.header-h-requires
header-h-requires c = c.loop.invariant.small

pub loop-preserved : goal.loop-preserved
loop-preserved c =
    let asked = c.requires in
    rise_on asked.3.core asked.0 c.loop.invariant (pair_with asked.3 _ _ (c.mask_of-children.ensures ∙ asked.1.at _ c.loop.invariant.small) c.put_pair.ensures) c.if-q-eq0.false c.header-h.ensures.parent

pub shape_of-sheet : goal.shape_of-sheet
shape_of-sheet c = absurd (omega (arith, c.loop.invariant.turns))

pub returns : goal.returns
returns c = absurd (omega (arith, c.loop.invariant.turns))
