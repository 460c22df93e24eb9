-- src/lib.rt, rest_sound: result ≡ all 16 (left_where board (view t.now))
use mathlib.Core.Path.{sym, ap, ◌∙◌}
use mathlib.Core.Bool.{not}
use native.Mathlib.Omega.{arith}
use Rattle.loops.specs.Laws.Scan.{seek_start, seek_hit, seek_on}
use Rattle.ordering.specs.Laws.Used.{seek_bound}
use Rattle.decide.specs.Laws.Decide.{top_left}
use Rattle.decide.proofs.rest_sound.Goals as goal

pub loop-p-init : goal.loop-p-init
loop-p-init c = seek_start

pub partition_sound-requires : goal.partition_sound-requires
partition_sound-requires c = (omega (arith, c.requires.0.within), c.requires.1)

pub returns-then-not-partition_sound : goal.returns-then-not-partition_sound
returns-then-not-partition_sound c = seek_hit c.loop-p.invariant (omega (arith, c.requires.0.within)) (ap not (sym c.partition_sound.ensures) ∙ (ap not c.if-not-partition_sound.true))

pub loop-p-preserved : goal.loop-p-preserved
loop-p-preserved c = seek_on c.loop-p.invariant (omega (arith, c.requires.0.within)) (ap not (sym c.partition_sound.ensures) ∙ (ap not c.if-not-partition_sound.false))

pub returns : goal.returns
returns c = seek_bound c.loop-p.invariant (λ p a b. ap not (top_left c.requires.0 _ p (omega arith)))
