-- src/collect_service.rt, vacant: result ≡ vacant (view t.now).k p.0 j
use Rattle.loops.specs.Laws.Scan.{seek_hit, seek_on, seek_end}
use Rattle.rules.specs.Rules.{vacant}
use Rattle.services.specs.Laws.CollectExits.{slot_there}
use native.Mathlib.Omega.{arith}
use Rattle.services.proofs.collect_service.vacant.Goals as goal

pub returns-then-f : goal.returns-then-f
unfolding vacant
returns-then-f c = seek_hit c.loop-i.invariant (omega arith) (slot_there c.entry-f.ensures c.if-f.true)

pub loop-i-preserved : goal.loop-i-preserved
unfolding vacant
loop-i-preserved c = seek_on c.loop-i.invariant (omega arith) (slot_there c.entry-f.ensures c.if-f.false)

pub returns : goal.returns
unfolding vacant
returns c = seek_end c.loop-i.invariant (omega arith)
