-- src/lib.rt, kept_region: result ≡ region_for (keep ((view t.now).opened p.0) (named r))
use mathlib.Core.Path.{refl, ◌∙◌}
use Rattle.tables.specs.View.{named}
use Rattle.tables.specs.Encode.{region_for}
use Rattle.tables.specs.Settle.{keep}
use Rattle.tables.specs.Laws.Kept.{region_kept}
use Rattle.settling.proofs.kept_region.Goals as goal

pub returns-then-f : goal.returns-then-f
unfolding region_for keep named
returns-then-f c = region_kept _ c.args.r c.if-r.true (c.entry-f.ensures.opened ∙ c.if-f.true)

pub returns-else-f : goal.returns-else-f
unfolding region_for keep named
returns-else-f c = rw (c.if-r.true, c.entry-f.ensures.opened, c.if-f.false) refl

pub returns-else-r : goal.returns-else-r
unfolding region_for keep named
returns-else-r c = rw c.if-r.false refl
