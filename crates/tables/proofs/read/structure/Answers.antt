-- src/read.rt, structure: SeenStructure t.now p.0 j result
use Rattle.tables.specs.Laws.Seen.{see_structure}
use mathlib.Core.Path.{◌≡◌, ap, ◌∙◌}
use Prim.Native.Nat.{ℕ, ◌+◌, ◌*◌}
use lib.ListN.{get_or}
use Rattle.words.specs.Kind.{fields_in}
use Rattle.words.specs.Words.{structure}
use native.Mathlib.Omega.{arith}
use Rattle.tables.specs.View.{area_word_at}
use Rattle.tables.proofs.read.structure.Goals as goal

pub returns : goal.returns
unfolding area_word_at
returns c = let a = c.args in let n : 2 + 40 * a.p.0 + a.j ≡ 1 + 40 * a.p.0 + (1 + a.j) = omega arith in see_structure a.t.now a.p.0 a.j _ c.requires.0 c.requires.1 (c.fields.ensures ∙ ap (λ (k : ℕ). fields_in structure (get_or a.t.now k 0)) n)
