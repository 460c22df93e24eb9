-- src/records.rt, all_blank: result ≡ all 8 (λ i. blank_region (nth_region (fields_in regions w) i))
use mathlib.Core.Path.{sym, ◌∙◌}
use native.Mathlib.Omega.{arith}
use Rattle.words.specs.Laws.Later.{bytes_fall}
use Rattle.shape.specs.Laws.Records.{blank_start, blank_fails, blank_on, blank_end}
use Rattle.shape.proofs.records.all_blank.Goals as goal

pub loop-left-init : goal.loop-left-init
loop-left-init c = blank_start

pub returns-then-not-is_blank : goal.returns-then-not-is_blank
returns-then-not-is_blank c = blank_fails c.loop-left.invariant (omega arith) c.first_region.ensures (sym c.is_blank.ensures ∙ c.if-not-is_blank.true)

pub loop-left-smaller : goal.loop-left-smaller
loop-left-smaller c = bytes_fall c.later_regions-left.ensures (omega arith)

pub loop-left-preserved : goal.loop-left-preserved
loop-left-preserved c = blank_on c.loop-left.invariant (omega arith) c.first_region.ensures (sym c.is_blank.ensures ∙ c.if-not-is_blank.false) c.later_regions-left.ensures

pub returns : goal.returns
returns c = blank_end c.loop-left.invariant (omega arith)
