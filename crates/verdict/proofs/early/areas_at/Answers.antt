-- src/early.rt, areas_at: result ≡ s4 t.now (view t.now).k p.0
use Rattle.verdict.specs.Laws.Records.{s4_fails, s4_decides}
use mathlib.Core.Path.{ap}
use mathlib.Core.Bool.{not}
use Rattle.verdict.proofs.early.areas_at.Goals as goal

pub returns-then-not-header_sound : goal.returns-then-not-header_sound
returns-then-not-header_sound c = s4_fails _ _ _ c.requires.1 c.header_sound.ensures (ap not c.if-not-header_sound.true)

pub returns : goal.returns
returns c = s4_decides _ _ _ c.requires.1 c.header_sound.ensures (ap not c.if-not-header_sound.false) c.structures_sound.ensures
