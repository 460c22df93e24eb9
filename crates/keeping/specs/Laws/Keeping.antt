-- The loop that puts one number a turn leaves them all.
use Rattle.std.specs.Prelude.{◌≡◌, cond, List, ℕ, ◌+◌, ◌≤◌, ◌<◌, leb, get_or}
use Rattle.std.proofs.Math.Decide.{dec_lt}
use Rattle.std.proofs.Common.{arith, le-leb}
use Rattle.std.proofs.lemmas.Bool.{lt-leb}
use Rattle.loops.specs.Loops.{Filling}
use Rattle.loops.specs.Laws.Rewrite.{tab_is}
use Rattle.keeping.specs.Keeping.{kept}

-- number n is the last
pub keep_end : (w : List ℕ) {b s : List ℕ} {n i : ℕ} → Filling (λ j x. get_or w j 0) b 641 i s → i ≤ n + 1 → n < i → s ≡ kept w n b
keep_end w {b} {s} {n} {i} inv within past = tab_is 641 _ s inv.size (λ j h. go j (dec_lt j i))
  where
    go : (j : ℕ) → Dec (j < i) → get_or s j 0 ≡ cond (leb j n) (get_or w j 0) (get_or b j 0)
    go j (yes x) = rw (le-leb j n (omega arith)) (inv.below j x)
    go j (no x) = rw (lt-leb j n (omega arith)) (inv.above j (omega arith))
