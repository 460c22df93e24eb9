-- A slot that another region names.
use Rattle.std.specs.Prelude.{Bool, not, ◌&&◌, ℕ, eqb}
use Rattle.tables.specs.State.{Table}
use Rattle.sound.specs.Clauses.{has}

-- ── a slot in another region ──
-- region q is not region r, and names slot s
unfoldable pub in_another : Table → ℕ → ℕ → ℕ → ℕ → Bool
in_another t p s r q = not (eqb q r) && has (λ i. eqb i s) (t.region p q)
