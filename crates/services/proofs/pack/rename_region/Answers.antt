-- src/pack.rt, rename_region: Is t.new (rename_at (view t.old) p.0 i.0 j.0 r)
use Rattle.services.specs.Laws.PackExits.{rename_unloaded, rename_other, rename_hit}
use Rattle.words.specs.Laws.Same.{ne_same, ne_apart}
use Rattle.services.proofs.pack.rename_region.Goals as goal

pub returns-then-not-x : goal.returns-then-not-x
returns-then-not-x c = rename_unloaded c.regions-f.ensures _ _ _ c.requires.3 c.nth-x.ensures c.requires.0 c.if-not-x.true

pub returns-then-ne : goal.returns-then-ne
returns-then-ne c = rename_other c.regions-f.ensures _ _ _ c.requires.3 c.nth-x.ensures c.requires.0 c.if-not-x.false (ne_apart c.ne.ensures c.if-ne.true)

pub returns : goal.returns
returns c = rename_hit c.regions-f.ensures _ _ _ c.requires.3 c.nth-x.ensures c.if-not-x.false (ne_same c.ne.ensures c.if-ne.false) c.put_region.ensures
