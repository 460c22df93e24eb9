-- src/delete_service.rt, ungive: Is t.new (ungiven (view t.old) c.0 p.0)
use Rattle.tables.specs.Laws.FitView.{fit_view}
use Rattle.services.specs.Laws.DeleteExits.{ungive_start, ungive_more, ungive_end}
use native.Mathlib.Omega.{arith}
use Rattle.services.proofs.delete_service.ungive.Goals as goal

pub loop-i-init : goal.loop-i-init
loop-i-init c = ungive_start c.requires.0

pub loop-i-preserved : goal.loop-i-preserved
loop-i-preserved c = ungive_more c.loop-i.invariant (omega arith) c.ungive_slot.ensures

pub returns : goal.returns
returns c = ungive_end c.loop-i.invariant (fit_view c.requires.0) (omega arith)
