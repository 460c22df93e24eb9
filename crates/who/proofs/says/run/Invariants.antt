-- src/says.rt, run: ends without a fault
use Rattle.std.proofs.Common.{◌-◌}
use Rattle.who.proofs.says.run.Given as goal

abbrev pub decreases-loop-l : goal.decreases-loop-l
decreases-loop-l g l = l.end.0 - l.l
