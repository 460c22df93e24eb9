-- src/lib.rt, is_sound_beside: SoundBeside board t.now sheet.now result same.new
use mathlib.Core.Path.{sym, ◌∙◌, ap}
use mathlib.Core.Bool.{false≢true, not}
use borrow.Author.Tests.{not-false}
use Rattle.sound.specs.Laws.Tests.{never}
use Rattle.decide.specs.Laws.Decide.{failed, passed, sound_formed}
use Rattle.sheetrules.specs.Laws.Bytes.{short_sheet}
use Rattle.comparing.specs.Laws.Once.{same_sheet}
use Rattle.facesheet.proofs.is_sound_beside.Goals as goal

pub is_sound-requires : goal.is_sound-requires
is_sound-requires c = c.requires.0

pub returns-then-sheet-ne256 : goal.returns-then-sheet-ne256
returns-then-sheet-ne256 c = record { says = c.is_sound.ensures; same = λ _. short_sheet _ _ c.if-sheet-ne256.true }

pub is_formed-requires : goal.is_formed-requires
is_formed-requires c = let asked = c.requires in (asked.0, c.if-sheet-ne256.false, asked.2)

pub returns-then-not-is_formed : goal.returns-then-not-is_formed
returns-then-not-is_formed c = record { says = never _ (λ q. failed c.is_formed.ensures.says (ap not c.if-not-is_formed.true) (sound_formed _ _ q)); same = λ q. absurd (false≢true q) }

pub is_sound_formed-requires : goal.is_sound_formed-requires
is_sound_formed-requires c = let asked = c.requires in (asked.0, passed c.is_formed.ensures.says (ap not c.if-not-is_formed.false))

pub returns : goal.returns
returns c = record { says = c.is_sound_formed.ensures; same = λ q. same_sheet c.if-sheet-ne256.false (c.requires.1 (sym c.is_sound_formed.ensures ∙ q)) (c.is_formed.ensures.same c.if-not-is_formed.false) }
