-- src/sums.rt, lines: result ≡ number_of_lines (entry_in f)
use mathlib.Core.Path.{refl}
use Rattle.tables.specs.View.{entry_in}
use Rattle.sheetrules.specs.Sheet.{number_of_lines}
use Rattle.summing.proofs.sums.lines.Goals as goal

pub returns : goal.returns
unfolding number_of_lines entry_in
returns c = rw c.requires.0 refl
