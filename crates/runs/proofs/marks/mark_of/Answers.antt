-- src/marks.rt, mark_of: result ≡ mark_for line.0 holder.0
use mathlib.Core.Path.{◌∙◌}
use Rattle.runs.specs.Laws.Ways.{kept_mark}
use Rattle.runs.proofs.marks.mark_of.Goals as goal

pub short-requires : goal.short-requires
short-requires c = (kept_mark (record { line = c.args.line; holder = c.args.holder }) c.requires.0 c.requires.1 c.write.ensures).0

pub returns : goal.returns
returns c =
    let a = c.args in
    c.short.ensures ∙ (kept_mark (record { line = a.line; holder = a.holder }) c.requires.0 c.requires.1 c.write.ensures).1
