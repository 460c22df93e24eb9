-- src/lib.rt, settle_regions: Is t.new (keep_regions (view t.old) p.0)
use mathlib.Core.Path.{ap, ◌∙◌}
use Rattle.words.specs.Kind.{writing}
use Rattle.words.specs.Words.{regions}
use Rattle.tables.specs.Laws.Kept.{regions_settled}
use Rattle.settling.proofs.settle_regions.Goals as goal

pub returns : goal.returns
returns c = let h = c.requires in rw c.store.ensures (regions_settled h.0 h.1 (c.write.ensures ∙ ap (writing regions) c.kept_regions.ensures))
