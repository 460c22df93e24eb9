-- src/kept.rt, put_gone: sheet.new ≡ put_those (touches Gone (view t.now).k) (view t.now) sheet.old
use mathlib.Core.Path.{ap, sym, ◌∙◌}
use lib.ListN.{length}
use Rattle.sheet.specs.Laws.Those.{those_length, gone_put}
use Rattle.sheet.proofs.kept.put_gone.Goals as goal

pub zero_absent-requires : goal.zero_absent-requires
zero_absent-requires c = c.requires.0

pub put_up-requires : goal.put_up-requires
put_up-requires c = (c.first-first.ensures.current_small, ap length c.zero_absent.ensures ∙ those_length _ _ _, c.requires.1)

pub shape_of-sheet : goal.shape_of-sheet
shape_of-sheet c = ap length c.put_up.ensures ∙ those_length _ _ _ ∙ sym c.requires.0

pub returns : goal.returns
returns c = gone_put _ _ c.first-first.ensures.current c.zero_absent.ensures c.put_up.ensures
