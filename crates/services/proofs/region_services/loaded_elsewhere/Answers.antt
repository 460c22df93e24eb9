-- src/region_services.rt, loaded_elsewhere: result ≡ elsewhere (view t.now) p.0 s.0 r
use mathlib.Core.Path.{sym, ◌∙◌}
use Rattle.loops.specs.Laws.Scan.{seek_hit, seek_on, seek_end}
use Rattle.rules.specs.Rules.{elsewhere}
use Rattle.services.specs.RegionExits.{in_another}
use native.Mathlib.Omega.{arith}
use Rattle.services.proofs.region_services.loaded_elsewhere.Goals as goal

pub returns-then-in_another : goal.returns-then-in_another
unfolding elsewhere in_another
returns-then-in_another c = seek_hit c.loop-q.invariant (omega arith) (sym c.in_another.ensures ∙ c.if-in_another.true)

pub loop-q-preserved : goal.loop-q-preserved
unfolding elsewhere in_another
loop-q-preserved c = seek_on c.loop-q.invariant (omega arith) (sym c.in_another.ensures ∙ c.if-in_another.false)

pub returns : goal.returns
unfolding elsewhere in_another
returns c = seek_end c.loop-q.invariant (omega arith)
