-- src/lib.rt, absent_partition: result ≡ which_of (lowest 16 (absent_child (view t.now).k))
use Rattle.loops.specs.Laws.Scan.{Seeking}
use Rattle.tables.specs.State.{none, some}
use Rattle.tables.specs.View.{view}
use Rattle.tables.specs.Search.{absent_child}
use Rattle.searching.proofs.absent_partition.Given as goal

abbrev pub invariant-loop-n : goal.invariant-loop-n
invariant-loop-n l = Seeking (absent_child (view l.t).k) some none 16 l.n
