-- src/late.rt, lowest: result ≡ lowest_of board t.now 176
use Rattle.verdict.proofs.Laws.Stages.{NoneFails}
use Rattle.verdict.proofs.late.lowest.Given as goal

abbrev pub invariant-loop-m : goal.invariant-loop-m
invariant-loop-m l = NoneFails l.board l.t l.m
