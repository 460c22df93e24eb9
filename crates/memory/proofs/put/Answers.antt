-- src/lib.rt, put: b.new ≡ put_word b.old i w
use mathlib.Core.Path.{◌∙◌}
use Rattle.memory.specs.Laws.Quads.{put_halves}
use native.Mathlib.Omega.{arith}
use Rattle.memory.proofs.put.Goals as goal

pub returns : goal.returns
returns c = c.put_quad-2.ensures ∙ rw c.put_quad.ensures (put_halves _ _ _ (omega arith) c.turned.ensures c.turned-2.ensures)
