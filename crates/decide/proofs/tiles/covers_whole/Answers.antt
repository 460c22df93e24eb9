-- src/tiles.rt, covers_whole: result ≡ exactly (view t.now).k p.0 && s11 (view t.now).k p.0 && grants_open (view t.now) p.0
use Rattle.decide.specs.Laws.Lines.{root_lacks, root_end}
use mathlib.Core.Path.{ap}
use mathlib.Core.Bool.{not}
use Rattle.decide.proofs.tiles.covers_whole.Goals as goal

pub full_each-requires : goal.full_each-requires
full_each-requires c = (c.requires.0.in_p, c.requires.2)

pub returns-then-not-full_each : goal.returns-then-not-full_each
returns-then-not-full_each c = root_lacks _ c.requires.1 c.full_each.ensures (ap not c.if-not-full_each.true)

pub tiles_whole-requires : goal.tiles_whole-requires
tiles_whole-requires c = (c.requires.0, c.requires.1)

pub returns : goal.returns
returns c = root_end _ c.requires.1 c.full_each.ensures (ap not c.if-not-full_each.false) c.tiles_whole.ensures
