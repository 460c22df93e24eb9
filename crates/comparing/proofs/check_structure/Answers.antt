-- src/lib.rt, check_structure: SlotsChecked t.now p.0 (8 * j) (slots_test t.now (view t.now).k p.0 j) result
use mathlib.Core.Path.{ap, sym, ◌∙◌}
use Rattle.tables.specs.Search.{is_some}
use Rattle.tables.specs.Laws.Search.{structure_some}
use Rattle.shape.specs.Laws.Records.{slots_absent}
use Rattle.summing.specs.Laws.Sums.{absent_room, add_empty}
use Rattle.comparing.specs.Laws.Once.{checked_refused, checked_passed, words_empty}
use mathlib.Core.Bool.{not}
use Rattle.comparing.proofs.check_structure.Goals as goal

pub check_eight-requires : goal.check_eight-requires
check_eight-requires c = let asked = c.requires in (asked.0, asked.1, record { there = ap is_some c.structure-s.ensures.area ∙ structure_some _ ∙ c.if-s.true }, asked.2)

pub returns-then-s : goal.returns-then-s
returns-then-s c = c.check_eight.ensures

pub returns-then-not-slot_words : goal.returns-then-not-slot_words
returns-then-not-slot_words c = checked_refused (c.slot_words.ensures ∙ slots_absent _ _ _ (ap is_some c.structure-s.ensures.area ∙ structure_some _ ∙ c.if-s.false)) (ap not c.if-not-slot_words.true)

pub overflow_mul-result : goal.overflow_mul-result
overflow_mul-result c = record { fits = absent_room _ c.requires.2 }

pub returns : goal.returns
returns c = checked_passed (c.slot_words.ensures ∙ slots_absent _ _ _ (ap is_some c.structure-s.ensures.area ∙ structure_some _ ∙ c.if-s.false)) (ap not c.if-not-slot_words.false) (add_empty _ c.requires.2 (words_empty _ _ _ (sym c.slot_words.ensures ∙ c.if-not-slot_words.false)))
