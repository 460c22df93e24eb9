-- src/regions.rt, nth: result ≡ nth_region f r
-- from k on, and not k
use mathlib.Core.Path.{◌≡◌, refl}
use Prim.Native.Nat.{ℕ, ◌+◌, ◌≤◌}
use native.Mathlib.Nat.{pos_of_ne-zero, le_antisymm}
use native.Mathlib.Omega.{arith}
use Rattle.tables.specs.View.{nth_region}
use borrow.Author.Rules.{rules}
use Rattle.tables.proofs.regions.nth.Goals as goal

-- from k on, and not k
past : {k r : ℕ} → k ≤ r → (r ≡ k → ⊥) → k + 1 ≤ r
past h z = omega arith

pub returns-in-0 : goal.returns-in-0
unfolding nth_region
returns-in-0 c = search rules

pub returns-in-1 : goal.returns-in-1
unfolding nth_region
returns-in-1 c = search rules

pub returns-in-2 : goal.returns-in-2
unfolding nth_region
returns-in-2 c = search rules

pub returns-in-3 : goal.returns-in-3
unfolding nth_region
returns-in-3 c = search rules

pub returns-in-4 : goal.returns-in-4
unfolding nth_region
returns-in-4 c = search rules

pub returns-in-5 : goal.returns-in-5
unfolding nth_region
returns-in-5 c = search rules

pub returns-in-6 : goal.returns-in-6
unfolding nth_region
returns-in-6 c = search rules

pub returns-in_default : goal.returns-in_default
unfolding nth_region
returns-in_default c =
    let m = c.in_default.in_default-own.rest in
    let four = past (past (past (pos_of_ne-zero m.0.0.0.0.0.0.1) m.0.0.0.0.0.1) m.0.0.0.0.1) m.0.0.0.1 in
    rw (← le_antisymm (past (past (past four m.0.0.1) m.0.1) m.1) (omega arith)) refl
