-- src/lib.rt, shapes_sound: result ≡ all 16 (shape_at t.now)
use mathlib.Core.Path.{sym, ap, ◌∙◌}
use mathlib.Core.Bool.{not}
use native.Mathlib.Omega.{arith}
use Rattle.loops.specs.Laws.Scan.{seek_start, seek_hit, seek_on}
use Rattle.ordering.specs.Laws.Used.{seek_bound}
use Rattle.decide.specs.Laws.Decide.{top_shape}
use Rattle.decide.proofs.shapes_sound.Goals as goal

pub loop-p-init : goal.loop-p-init
loop-p-init c = seek_start

pub shape_sound-requires : goal.shape_sound-requires
shape_sound-requires c = omega (arith, c.requires.0.within)

pub returns-then-not-shape_sound : goal.returns-then-not-shape_sound
returns-then-not-shape_sound c = seek_hit c.loop-p.invariant (omega (arith, c.requires.0.within)) (ap not (sym c.shape_sound.ensures) ∙ (ap not c.if-not-shape_sound.true))

pub loop-p-preserved : goal.loop-p-preserved
loop-p-preserved c = seek_on c.loop-p.invariant (omega (arith, c.requires.0.within)) (ap not (sym c.shape_sound.ensures) ∙ (ap not c.if-not-shape_sound.false))

pub returns : goal.returns
returns c = seek_bound c.loop-p.invariant (λ p a b. ap not (top_shape c.requires.0 c.requires.1 p (omega arith) b))
