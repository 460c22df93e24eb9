-- src/pieces.rt, hop_at: Hopped (view t.now).k l.0 p.0 result × Passed (view t.now).k order.now l.0 places.new
use native.Mathlib.Omega.{arith}
use Rattle.runs.specs.Laws.Places.{pass_in, pass_on, pass_here, passed_set}
use Rattle.runs.proofs.pieces.hop_at.Goals as goal

pub entry_at-f-requires : goal.entry_at-f-requires
entry_at-f-requires c = pass_in c.requires.0 c.requires.1 c.requires.3 c.loop-a.invariant.passing

pub returns-then-l-f : goal.returns-then-l-f
returns-then-l-f c = (
  pass_here c.requires.0 c.requires.1 c.requires.3 c.loop-a.invariant.passing _ c.entry_at-f.ensures.slot (omega arith) c.entry_at-f.ensures.given_small,
  passed_set c.loop-a.invariant.passed c.loop-a.invariant.passing,
)

pub loop-a-preserved : goal.loop-a-preserved
loop-a-preserved c =
    record {
      passing = pass_on c.requires.0 c.requires.1 c.requires.3 c.loop-a.invariant.passing _ c.entry_at-f.ensures.slot (omega arith);
      passed = c.loop-a.invariant.passed;
    }

pub returns : goal.returns
returns c = absurd (omega (arith, (pass_in c.requires.0 c.requires.1 c.requires.3 c.loop-a.invariant.passing).1))
