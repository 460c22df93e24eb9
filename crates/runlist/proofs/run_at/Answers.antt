-- src/lib.rt, run_at: result ≡ run_at marks.now i
use mathlib.Core.Path.{ap, ◌∙◌}
use Prim.Native.Nat.{ℕ}
use Rattle.words.specs.Kind.{fields_in}
use Rattle.words.specs.Words.{mark}
use Rattle.runs.specs.Laws.Marks.{run_is}
use Rattle.runlist.proofs.run_at.Goals as goal

pub number-requires : goal.number-requires
number-requires c = c.requires.here

pub number-requires-2 : goal.number-requires-2
number-requires-2 c = c.requires.next

pub returns : goal.returns
returns c = run_is c.args.marks.now c.args.i (c.fields-here.ensures ∙ ap (λ (m : ℕ). fields_in mark m) c.number.ensures) (c.fields-next.ensures ∙ ap (λ (m : ℕ). fields_in mark m) c.number-2.ensures)
