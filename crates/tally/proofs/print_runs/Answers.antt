-- src/main.rt, print_runs: ends without a fault
-- A run that the plan counts is read from two marks.
use Rattle.std.proofs.Common.{ap, arith}
use Rattle.shapes.specs.declared.Board.TheVariants.{V7}
use Rattle.runlist.specs.declared.Plan.{Plan}
use Rattle.runlist.specs.Laws.Listing.{marks_at}
use Rattle.tally.proofs.print_runs.Goals as goal

pub run_at-requires : goal.run_at-requires
run_at-requires g c = marks_at V7 c.args.t.now 512 (λ _. c.plan_of-plan.ensures.1) (omega (arith, ap (λ (p : Plan). p.number) c.plan_of-plan.ensures.0))
