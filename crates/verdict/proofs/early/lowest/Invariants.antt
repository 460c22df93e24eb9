-- src/early.rt, lowest: result ≡ lowest_of board t.now 96
use Rattle.verdict.proofs.Laws.Stages.{NoneFails}
use Rattle.verdict.proofs.early.lowest.Given as goal

abbrev pub invariant-loop-m : goal.invariant-loop-m
invariant-loop-m l = NoneFails l.board l.t l.m
