-- src/pieces.rt, climb: Climbed way.now depth l.0 result
use mathlib.Core.Path.{ap}
use native.Mathlib.Omega.{arith}
use Rattle.words.specs.declared.mark_word.MarkFields.{MarkFields}
use Rattle.runs.proofs.pieces.climb.Goals as goal

pub returns-then-l-step : goal.returns-then-l-step
returns-then-l-step c = record { climbing = c.loop-d.invariant; low = omega (arith, ap (λ (f : MarkFields). f.line.0) c.fields-step.ensures) }
