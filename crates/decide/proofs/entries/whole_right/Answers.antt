-- src/entries.rt, whole_right: result ≡ (not f.whole || undivided (view t.now).k p.0 f.opened (entry_of f))
use Rattle.decide.specs.Laws.Entries.{whole_on, whole_off}
use Rattle.decide.proofs.entries.whole_right.Goals as goal

pub returns-then-f : goal.returns-then-f
returns-then-f c = whole_on _ _ c.if-f.true c.undivided.ensures

pub returns : goal.returns
returns c = whole_off _ _ c.if-f.false
