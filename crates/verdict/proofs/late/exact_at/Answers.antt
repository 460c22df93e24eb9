-- src/late.rt, exact_at: result ≡ s7 (view t.now) p.0
use Rattle.decide.specs.Laws.Decide.{passed}
use Rattle.verdict.proofs.Laws.Stages.{s7_absent, given_fails, exact_decides}
use mathlib.Core.Path.{ap}
use mathlib.Core.Bool.{not}
use Rattle.verdict.proofs.late.exact_at.Goals as goal

pub returns-then-not-is_present : goal.returns-then-not-is_present
returns-then-not-is_present c = let h = c.requires in s7_absent _ h.1 h.0 c.is_present.ensures (ap not c.if-not-is_present.true)

pub given_each-requires : goal.given_each-requires
given_each-requires c = let h = c.requires in (h.0, h.1)

pub returns-then-not-given_each : goal.returns-then-not-given_each
returns-then-not-given_each c = given_fails _ _ c.is_present.ensures (ap not c.if-not-is_present.false) c.given_each.ensures (ap not c.if-not-given_each.true)

pub covers-requires : goal.covers-requires
covers-requires c = let h = c.requires in (h.0, passed c.is_present.ensures (ap not c.if-not-is_present.false), h.1, h.2)

pub returns : goal.returns
returns c = exact_decides _ _ c.is_present.ensures (ap not c.if-not-is_present.false) c.given_each.ensures (ap not c.if-not-given_each.false) c.covers.ensures
