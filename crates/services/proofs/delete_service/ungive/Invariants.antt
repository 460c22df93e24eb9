-- src/delete_service.rt, ungive: Is t.new (ungiven (view t.old) c.0 p.0)
use Rattle.tables.specs.View.{view}
use Rattle.services.specs.Laws.DeleteExits.{Ungiving}
use Rattle.services.proofs.delete_service.ungive.Given as goal

abbrev pub invariant-loop-i : goal.invariant-loop-i
invariant-loop-i l = Ungiving (view l.initial.t) l.c.0 l.p.0 l.i l.t
