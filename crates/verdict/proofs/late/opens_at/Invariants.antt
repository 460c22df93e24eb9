-- src/late.rt, opens_at: result ≡ s9 (view t.now) p.0
use Rattle.loops.specs.Laws.Every.{Passing}
use Rattle.tables.specs.View.{view}
use Rattle.verdict.specs.Stages.{open_slot}
use Rattle.verdict.proofs.late.opens_at.Given as goal

abbrev pub invariant-loop-i : goal.invariant-loop-i
invariant-loop-i l = Passing (open_slot (view l.t) l.p.0) 32 l.i
