-- The exits of the tests of P.
use Rattle.std.specs.Prelude.{◌≡◌, Bool, true, ℕ}
use Rattle.std.proofs.Math.Path.{refl, sym}
use Rattle.std.proofs.Common.{◌∙◌}
use borrow.Author.Tests.{eq-eqb, ne_eqb}
use Rattle.tables.specs.State.{K}
use Rattle.tables.specs.Search.{child, present}
use Rattle.rules.specs.Rules.{own_or_child, parent_or_child}

module _ (k : K) (p : ℕ) {c : ℕ} (now : k.current ≡ c) where
  pub own_caller : p ≡ c → true ≡ own_or_child k p
  unfolding own_or_child
  own_caller z = rw (now, eq-eqb p c z) refl

  pub own_other : {b : Bool} → (p ≡ c → ⊥) → b ≡ child k c p → b ≡ own_or_child k p
  unfolding own_or_child child present
  own_other z e = rw (now, ne_eqb p c z) e

  pub is_parent : {u : ℕ} → (c ≡ 0 → ⊥) → k.parent c ≡ u → p ≡ u → true ≡ parent_or_child k p
  unfolding parent_or_child
  is_parent z e q = rw (now, ne_eqb c 0 z, eq-eqb p (k.parent c) (q ∙ sym e)) refl

  pub of_root : {b : Bool} → c ≡ 0 → b ≡ child k c p → b ≡ parent_or_child k p
  unfolding parent_or_child child present
  of_root z e = rw (now, eq-eqb c 0 z) e

  pub not_parent : {b : Bool} {u : ℕ} → (c ≡ 0 → ⊥) → k.parent c ≡ u → (p ≡ u → ⊥) → b ≡ child k c p → b ≡ parent_or_child k p
  unfolding parent_or_child child present
  not_parent z e q f = rw (now, ne_eqb c 0 z, ne_eqb p (k.parent c) (λ w. q (w ∙ e))) f
