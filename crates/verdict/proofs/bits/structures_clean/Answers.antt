-- src/bits.rt, structures_clean: result ≡ all 4 (λ j. zeroed structure (area_word_at t.now p.0 (1 + j)))
use mathlib.Core.Path.{ap, sym, ◌∙◌}
use mathlib.Core.Bool.{not}
use native.Mathlib.Omega.{arith}
use Rattle.loops.specs.Laws.Scan.{seek_start, seek_hit, seek_on, seek_end}
use Rattle.verdict.proofs.bits.structures_clean.Goals as goal

pub loop-j-init : goal.loop-j-init
loop-j-init c = seek_start

pub returns-then-not-structure_bits : goal.returns-then-not-structure_bits
returns-then-not-structure_bits c = seek_hit c.loop-j.invariant (omega arith) (ap not (sym c.structure_bits.ensures) ∙ (ap not c.if-not-structure_bits.true))

pub loop-j-preserved : goal.loop-j-preserved
loop-j-preserved c = seek_on c.loop-j.invariant (omega arith) (ap not (sym c.structure_bits.ensures) ∙ (ap not c.if-not-structure_bits.false))

pub returns : goal.returns
returns c = seek_end c.loop-j.invariant (omega arith)
