-- src/who.rt, up_from: result ≡ up_from (view t.now).k p.0
use Rattle.rules.specs.Laws.Changes.{mask_up_start, mask_up_root, mask_up_on, mask_up_end}
use native.Mathlib.Omega.{arith}
use Rattle.services.proofs.who.up_from.Goals as goal

pub loop-init : goal.loop-init
loop-init c = mask_up_start c.requires

pub returns-then-q-eq0 : goal.returns-then-q-eq0
returns-then-q-eq0 c = mask_up_root c.loop.invariant c.if-q-eq0.true

pub loop-preserved : goal.loop-preserved
loop-preserved c =
    let parent = c.header-h.ensures in
    mask_up_on c.loop.invariant c.if-q-eq0.false (omega arith) parent.parent parent.parent_small c.one_partition-mask.ensures

pub returns : goal.returns
returns c = mask_up_end c.loop.invariant (omega arith)
