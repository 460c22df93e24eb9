-- src/records.rt, structure_slots: result ≡ slots_test t.now (view t.now).k p.0 j
use mathlib.Core.Path.{ap, ◌∙◌}
use Rattle.tables.specs.Search.{is_some}
use Rattle.tables.specs.Laws.Search.{structure_some}
use Rattle.shape.specs.Laws.Records.{slots_absent}
use Rattle.shape.proofs.records.structure_slots.Goals as goal

pub eight_sound-requires : goal.eight_sound-requires
eight_sound-requires c = (c.requires.0, c.requires.1, record { there = ap is_some c.structure-s.ensures.area ∙ structure_some _ ∙ c.if-s.true })

pub returns-then-s : goal.returns-then-s
returns-then-s c = c.eight_sound.ensures

pub returns : goal.returns
returns c = c.slot_words.ensures ∙ slots_absent _ _ _ (ap is_some c.structure-s.ensures.area ∙ structure_some _ ∙ c.if-s.false)
