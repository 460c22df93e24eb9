-- src/lib.rt, absent_structure: result ≡ structure_of (lowest 4 (no_structure (view t.now).k p.0))
use mathlib.Core.Path.{ap}
use Rattle.loops.specs.Laws.Scan.{seek_hit, seek_on, seek_end}
use Rattle.tables.specs.Search.{lowest, no_structure}
use Rattle.tables.specs.Laws.Search.{structure_some}
use Rattle.tables.specs.Answers.{structure_of}
use native.Mathlib.Omega.{arith}
use Rattle.searching.proofs.absent_structure.Goals as goal

pub returns-then-not-s : goal.returns-then-not-s
unfolding lowest structure_of no_structure
returns-then-not-s c = ap structure_of (seek_hit c.loop-j.invariant (omega arith) (rw (c.structure-s.ensures.area, structure_some) c.if-not-s.true))

pub loop-j-preserved : goal.loop-j-preserved
unfolding lowest structure_of no_structure
loop-j-preserved c = seek_on c.loop-j.invariant (omega arith) (rw (c.structure-s.ensures.area, structure_some) c.if-not-s.false)

pub returns : goal.returns
unfolding lowest structure_of no_structure
returns c = ap structure_of (seek_end c.loop-j.invariant (omega arith))
