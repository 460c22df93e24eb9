-- src/says.rt, runs: ends without a fault
-- A run that the plan counts is read from two marks.
use Rattle.std.proofs.Common.{ap, arith}
use Rattle.runlist.specs.declared.Plan.{Plan}
use Rattle.runlist.specs.Laws.Listing.{marks_at}
use Rattle.who.proofs.says.runs.Goals as goal

pub run_at-r-requires : goal.run_at-r-requires
run_at-r-requires g c = marks_at c.args.board c.args.t.now 512 (λ _. c.plan_of-plan.ensures.1) (omega (arith, ap (λ (p : Plan). p.number) c.plan_of-plan.ensures.0))
