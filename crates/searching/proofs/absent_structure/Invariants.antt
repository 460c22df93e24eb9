-- src/lib.rt, absent_structure: result ≡ structure_of (lowest 4 (no_structure (view t.now).k p.0))
use Rattle.loops.specs.Laws.Scan.{Seeking}
use Rattle.tables.specs.State.{none, some}
use Rattle.tables.specs.View.{view}
use Rattle.tables.specs.Search.{no_structure}
use Rattle.searching.proofs.absent_structure.Given as goal

abbrev pub invariant-loop-j : goal.invariant-loop-j
invariant-loop-j l = Seeking (no_structure (view l.t).k l.p.0) some none 4 l.j
