-- What a derived == or != of two lines, slots or partitions tells of their numbers.
use Rattle.std.specs.Prelude.{◌≡◌, Bool, true, false, not, ℕ, eqb}
use Rattle.std.proofs.Common.{sym, ◌∙◌, eqb-true}
use Rattle.std.proofs.lemmas.Bool.{not-true, not-false, eqb-false}

module _ {a b : ℕ} {r : Bool} where
  pub eq_same : r ≡ eqb a b → r ≡ true → a ≡ b
  eq_same e t = eqb-true a b (sym e ∙ t)

  pub eq_apart : r ≡ eqb a b → r ≡ false → a ≡ b → ⊥
  eq_apart e t = eqb-false a b (sym e ∙ t)

  pub ne_same : r ≡ not (eqb a b) → r ≡ false → a ≡ b
  ne_same e t = eqb-true a b (not-false _ (sym e ∙ t))

  pub ne_apart : r ≡ not (eqb a b) → r ≡ true → a ≡ b → ⊥
  ne_apart e t = eqb-false a b (not-true _ (sym e ∙ t))
