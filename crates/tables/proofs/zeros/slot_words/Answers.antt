-- src/zeros.rt, slot_words: result ≡ all 8 (λ o. eqb (slot_word_at t.now p.0 (8 * j + o)) 0)
use mathlib.Core.Path.{refl, ◌∙◌}
use Rattle.loops.specs.Laws.Oring.{or_start, or_on, or_end}
use Rattle.tables.specs.Laws.ZeroRecord.{structure_slots}
use native.Mathlib.Omega.{arith}
use Rattle.tables.proofs.zeros.slot_words.Goals as goal

pub loop-o-init : goal.loop-o-init
loop-o-init c = or_start

pub loop-o-preserved : goal.loop-o-preserved
loop-o-preserved c = or_on c.loop-o.invariant (omega arith) refl

pub returns : goal.returns
returns c = or_end c.loop-o.invariant (omega arith) ∙ structure_slots _ _ _
