-- src/lib.rt, clear: masks.new ≡ between a b (mask_struck w) masks.old
use Rattle.std.specs.Prelude.{◌≡◌, ℕ, ◌-◌, ◌^◌, ◌<◌}
use Rattle.std.specs.Int.Bits.{bit_and, bit_xor, xor_add_and, and_self}
use Rattle.std.proofs.lemmas.Nat.{and-not, and_comm, and_assoc}
use native.Mathlib.Omega.{arith}
use mathlib.Core.Path.{sym, ap, ◌∙◌}
use Rattle.loops.specs.Laws.Rewrite.{fill_put}
use Rattle.engine.specs.Laws.Marking.{part_rewritten}
use Rattle.engine.proofs.clear.Goals as goal

-- `m & !w`
struck : (m w : ℕ) → m < 2 ^ 16 → w < 2 ^ 16 → bit_and m (65535 - w) ≡ bit_xor m (bit_and m w)
struck m w f g =
    let once = sym (and_assoc w m m) ∙ ap (λ (x : ℕ). bit_and x w) (and_self m) in
    omega (arith, and-not 16 w m g f, and_comm m (65535 - w), and_comm w m, xor_add_and m (bit_and m w), once)

pub loop-mask-preserved : goal.loop-mask-preserved
loop-mask-preserved c = fill_put c.loop-mask.invariant (omega arith) (struck _ _ (omega arith) (omega arith))

pub returns : goal.returns
returns c =
    let done = c.loop-mask.invariant in
    part_rewritten _ _ _ _ _ c.requires.0 c.requires.1 done.size (λ k h. done.below k (omega arith))
