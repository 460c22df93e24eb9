-- src/opening.rt, regions_right: result ≡ s10 board (view t.now) p.0
use Rattle.words.specs.Laws.Later.{bytes_left}
use Rattle.loaded.specs.Laws.Regions.{WeighingLeft}
use Rattle.loaded.proofs.opening.regions_right.Given as goal

abbrev pub invariant-loop-left : goal.invariant-loop-left
invariant-loop-left l = WeighingLeft l.board l.t l.p.0 l.initial.left l.mask l.n l.left

abbrev pub decreases-loop-left : goal.decreases-loop-left
decreases-loop-left l = bytes_left l.left
