-- src/given.rt, given_each: result ≡ s7_given (view t.now).k p.0 && s7_whole (view t.now) p.0
use Rattle.loops.specs.Laws.Every.{Passing}
use Rattle.tables.specs.View.{view}
use Rattle.covering.specs.Cover.{given_slot}
use Rattle.covering.proofs.given.given_each.Given as goal

abbrev pub invariant-loop-i : goal.invariant-loop-i
invariant-loop-i l = Passing (given_slot (view l.t) l.p.0) 32 l.i
