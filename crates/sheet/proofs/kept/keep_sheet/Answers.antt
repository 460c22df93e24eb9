-- src/kept.rt, keep_sheet: sheet.new ≡ sheet_kept x (view t.now) sheet.old
use Rattle.sheet.specs.Laws.Touched.{kept_nobody, kept_one, kept_up, kept_gone}
use Rattle.sheet.proofs.kept.keep_sheet.Goals as goal

pub put_again-requires : goal.put_again-requires
put_again-requires c = let asked = c.requires in (asked.2.one _ c.in-One.is, asked.0, asked.1)

pub put_up-requires : goal.put_up-requires
put_up-requires c = let asked = c.requires in (asked.2.up _ c.in-Up.is, asked.0, asked.1)

pub put_gone-requires : goal.put_gone-requires
put_gone-requires c = let asked = c.requires in (asked.0, asked.1)

pub returns-in-Nobody : goal.returns-in-Nobody
returns-in-Nobody c = kept_nobody _ _ c.in-Nobody.is

pub returns-in-One : goal.returns-in-One
returns-in-One c = kept_one _ _ c.in-One.is c.put_again.ensures

pub returns-in-Up : goal.returns-in-Up
returns-in-Up c = kept_up _ _ c.in-Up.is c.put_up.ensures

pub returns-in-Gone : goal.returns-in-Gone
returns-in-Gone c = kept_gone _ _ c.in-Gone.is c.put_gone.ensures
