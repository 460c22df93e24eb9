-- src/late.rt, rights_at: result ≡ s11 (view t.now).k p.0
use Rattle.decide.specs.Laws.Decide.{passed}
use Rattle.verdict.proofs.Laws.Stages.{s11_absent, rights_decide}
use mathlib.Core.Path.{ap}
use mathlib.Core.Bool.{not}
use Rattle.verdict.proofs.late.rights_at.Goals as goal

pub returns-then-not-is_present : goal.returns-then-not-is_present
returns-then-not-is_present c = let h = c.requires in s11_absent _ h.1 h.0 c.is_present.ensures (ap not c.if-not-is_present.true)

pub covers-requires : goal.covers-requires
covers-requires c = let h = c.requires in (h.0, passed c.is_present.ensures (ap not c.if-not-is_present.false), h.1, h.2)

pub returns : goal.returns
returns c = rights_decide _ _ (passed c.is_present.ensures (ap not c.if-not-is_present.false)) c.requires.3 c.covers.ensures
