-- src/lib.rt, absent_partition: result ≡ which_of (lowest 16 (absent_child (view t.now).k))
use mathlib.Core.Path.{refl, ap}
use Rattle.loops.specs.Laws.Scan.{seek_start, seek_hit, seek_on, seek_end}
use Rattle.tables.specs.Search.{lowest, absent_child}
use Rattle.tables.specs.Laws.Search.{absent_child_law}
use Rattle.tables.specs.Answers.{which_of}
use native.Mathlib.Omega.{arith}
use mathlib.Core.Bool.{not}
use Rattle.searching.proofs.absent_partition.Goals as goal

pub loop-n-init : goal.loop-n-init
unfolding lowest which_of absent_child
loop-n-init c = seek_on seek_start (omega arith) refl

pub returns-then-not-is_present : goal.returns-then-not-is_present
unfolding lowest which_of absent_child
returns-then-not-is_present c = ap which_of (seek_hit c.loop-n.invariant (omega arith) (rw (absent_child_law _ c.loop-n.n (omega arith), ← c.is_present.ensures) (ap not c.if-not-is_present.true)))

pub loop-n-preserved : goal.loop-n-preserved
unfolding lowest which_of absent_child
loop-n-preserved c = seek_on c.loop-n.invariant (omega arith) (rw (absent_child_law _ c.loop-n.n (omega arith), ← c.is_present.ensures) (ap not c.if-not-is_present.false))

pub returns : goal.returns
unfolding lowest which_of absent_child
returns c = ap which_of (seek_end c.loop-n.invariant (omega arith))
