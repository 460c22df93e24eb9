-- src/lib.rt, serve_word: CallAnswers board t.old word result t.new
use mathlib.Core.Path.{sym, ◌∙◌}
use Rattle.sound.proofs.Laws.List.{sound_means}
use Rattle.sound.proofs.Laws.Whole.{sound_right}
use Rattle.sound.specs.Laws.Canonical.{sound_canon}
use Rattle.rules.specs.Laws.Calls.{read_small, answers_served, answers_unread}
use Rattle.calls.proofs.serve_word.Goals as goal

pub changed_by-changed-requires : goal.changed_by-changed-requires
changed_by-changed-requires c = (c.first-first.ensures.current, c.first-first.ensures.current_small, read_small _ (sym c.read-read.ensures ∙ c.in-Ok.is))

pub serve-outcome-requires : goal.serve-outcome-requires
serve-outcome-requires c =
    let h = (sound_means _ _).0 c.requires in
    let canon = sound_canon c.fits.ensures h in
    (canon, read_small _ (sym c.read-read.ensures ∙ c.in-Ok.is), sound_right canon h)

pub returns-in-Ok : goal.returns-in-Ok
returns-in-Ok c = answers_served _ _ _ c.requires c.first-first.ensures.current (sym c.read-read.ensures ∙ c.in-Ok.is) c.serve-outcome.ensures c.only_reads-stands.ensures c.changed_by-changed.ensures

pub returns-in-Err : goal.returns-in-Err
returns-in-Err c = answers_unread _ _ _ c.requires c.first-first.ensures.current (sym c.read-read.ensures ∙ c.in-Err.is)
