-- src/opening.rt, regions_right: result ≡ s10 board (view t.now) p.0
use mathlib.Core.Path.{sym, ◌∙◌}
use native.Mathlib.Omega.{arith}
use Rattle.words.specs.Laws.Fields.{regions_small}
use Rattle.words.specs.Laws.Later.{bytes_fall}
use Rattle.loaded.specs.Laws.Regions.{left_start, left_few, left_on, left_fails, left_end}
use Rattle.loaded.proofs.opening.regions_right.Goals as goal

pub loop-left-init : goal.loop-left-init
loop-left-init c = left_start

pub region_weight-requires : goal.region_weight-requires
region_weight-requires c = (c.requires, rw c.first_region-x.ensures (regions_small _).region0)

pub overflow_add-n : goal.overflow_add-n
overflow_add-n c = omega (arith, left_few c.loop-left.invariant (omega arith), c.in-Some.ensures.1)

pub returns-in_default : goal.returns-in_default
returns-in_default c = left_fails c.loop-left.invariant c.requires c.regions_word-left.ensures (omega arith) c.first_region-x.ensures (sym c.in_default.is ∙ c.region_weight.ensures.0)

pub noted-mask-requires : goal.noted-mask-requires
noted-mask-requires c = rw c.first_region-x.ensures (regions_small _).region0

pub loop-left-smaller : goal.loop-left-smaller
loop-left-smaller c = bytes_fall c.later_regions-left.ensures (omega arith)

pub loop-left-preserved : goal.loop-left-preserved
loop-left-preserved c = left_on c.loop-left.invariant c.requires c.regions_word-left.ensures (omega arith) c.first_region-x.ensures c.in-Some.ensures.0 c.in-Some.ensures.1 c.noted-mask.ensures c.later_regions-left.ensures

pub returns : goal.returns
returns c = left_end c.loop-left.invariant c.requires c.regions_word-left.ensures (omega arith)
