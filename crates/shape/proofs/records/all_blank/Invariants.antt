-- src/records.rt, all_blank: result ≡ all 8 (λ i. blank_region (nth_region (fields_in regions w) i))
use Rattle.words.specs.Laws.Later.{bytes_left}
use Rattle.shape.specs.Laws.Records.{BlankTo}
use Rattle.shape.proofs.records.all_blank.Given as goal

abbrev pub invariant-loop-left : goal.invariant-loop-left
invariant-loop-left l = BlankTo l.w l.left

abbrev pub decreases-loop-left : goal.decreases-loop-left
decreases-loop-left l = bytes_left l.left
