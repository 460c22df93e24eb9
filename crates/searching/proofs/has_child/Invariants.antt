-- src/lib.rt, has_child: result ≡ has_child (view t.now).k p.0
use Rattle.loops.specs.Laws.Every.{Missing}
use Rattle.tables.specs.View.{view}
use Rattle.tables.specs.Search.{child}
use Rattle.searching.proofs.has_child.Given as goal

abbrev pub invariant-loop-c : goal.invariant-loop-c
invariant-loop-c l = Missing (child (view l.t).k l.p.0) 16 l.c
