-- src/lib.rt, check_eight: SlotsChecked t.now p.0 (8 * j) (slots_test t.now (view t.now).k p.0 j) result
use Rattle.tables.specs.View.{view}
use Rattle.summing.specs.Sums.{Adding}
use Rattle.comparing.specs.Laws.Once.{SlotsFrom}
use Rattle.comparing.proofs.check_eight.Given as goal

abbrev pub invariant-loop-i : goal.invariant-loop-i
invariant-loop-i l = SlotsFrom l.t l.p.0 l.j l.i × Adding (view l.t) l.p.0 l.i l.sums
