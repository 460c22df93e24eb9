-- src/lib.rt, holding_slot: result ≡ looked_of (look_for (view t.now).k l.0 p.0)
use Rattle.loops.specs.Laws.Scan.{Seeking}
use Rattle.tables.specs.State.{none, some}
use Rattle.tables.specs.View.{view}
use Rattle.tables.specs.Search.{holds_at}
use Rattle.searching.proofs.holding_slot.Given as goal

abbrev pub invariant-loop-s : goal.invariant-loop-s
invariant-loop-s l = Seeking (holds_at (view l.t).k l.p.0 l.l.0) some none 32 l.s
