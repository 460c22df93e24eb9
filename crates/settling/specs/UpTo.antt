-- Functions that are changed place by place, from 0 up.
use Rattle.std.specs.Prelude.{cond, ℕ, ltb}

-- f below n, and g from n on
unfoldable pub up_to : {A : Type 0} → ℕ → (ℕ → A) → (ℕ → A) → ℕ → A
up_to n f g k = cond (ltb k n) (f k) (g k)
