-- src/opening.rt, is_open: result ≡ is_open (view t.now) p.0 i.0
use mathlib.Core.Path.{refl}
use Rattle.tables.specs.Laws.Search.{entry_some}
use Rattle.loaded.specs.Opening.{is_open}
use Rattle.loaded.proofs.opening.is_open.Goals as goal

pub returns-then-f : goal.returns-then-f
unfolding is_open
returns-then-f c = let f = c.entry-f.ensures in rw (f.slot, entry_some, c.if-f.true, f.opened) refl

pub returns : goal.returns
unfolding is_open
returns c = let f = c.entry-f.ensures in rw (f.slot, entry_some, c.if-f.false) refl
