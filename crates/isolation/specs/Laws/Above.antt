-- In a sound table the test tells who is above a partition: on the way from it to the root.
use Rattle.std.specs.Prelude.{◌≡◌, refl, false, ◌||◌, ◌↔◌, ℕ, ◌<◌}
use Rattle.std.proofs.Common.{ap, sym, ◌∙◌, eq-eqb, ne_eqb}
use Rattle.std.proofs.Math.Bool.{true}
use Rattle.std.proofs.lemmas.Bool.{false≢true}
use Rattle.std.proofs.Math.Decide.{ℕ_discrete}
use Rattle.std.proofs.Math.Dec.{eqb}
use Rattle.loops.specs.Loops.{Reaches, at_root, by_step}
use Rattle.tables.specs.State.{Opt, none, some, Area, K}
use Rattle.sound.specs.Core.{Core}
use Rattle.sound.specs.Laws.Core.{parent_range}
use Rattle.sound.specs.Properties.{Above, itself, higher}
use Rattle.sound.specs.Laws.Grants.{root_above}
use Rattle.rules.specs.Rules.{branch}
use Rattle.rules.specs.Branch.{Under, itself as is-top, below}
use Rattle.rules.specs.Changes.{above}
use Rattle.rules.specs.Laws.Branch.{branch_of_law, branch_at}

module _ {k : K} (h : Core k) where
  -- every walk gets to the root: the parent of who is absent is 0
  pub all_climb : (p : ℕ) → Reaches k.parent 15 p
  all_climb p = go (k.area p 0) refl
    where
      go : (o : Opt Area) → k.area p 0 ≡ o → Reaches k.parent 15 p
      go none z = by_step (at_root (h.s2_parent p z))
      go (some a) z = h.s2_climb p (a, z)

  -- above the root is the root alone
  pub top_only : {q x : ℕ} → x ≡ 0 → Above k.parent q x → q ≡ 0
  top_only z (itself e) = sym e ∙ z
  top_only z (higher a) = top_only (ap k.parent z ∙ h.s2_root_law.2) a

  above_under : {q p : ℕ} → (q ≡ 0 → ⊥) → Above k.parent q p → Under k.parent q p
  above_under n (itself z) = is-top z
  above_under {q} {p} n (higher a) = go (ℕ_discrete p 0) (above_under n a)
    where
      go : Dec (p ≡ 0) → Under k.parent q (k.parent p) → Under k.parent q p
      go (yes z) u = absurd (n (top_only z (higher a)))
      go (no z) u = below z u

  under_above : {q p : ℕ} → Under k.parent q p → Above k.parent q p
  under_above (is-top z) = itself z
  under_above (below n u) = higher (under_above u)

  pub above_means : (p q : ℕ) → p < 16 → (above k p q ≡ true) ↔ Above k.parent q p
  unfolding above
  above_means p q b = (to (ℕ_discrete q 0), back (ℕ_discrete q 0))
    where
      to : Dec (q ≡ 0) → eqb q 0 || branch k.parent q p ≡ true → Above k.parent q p
      to (yes z) x = rw z (root_above (all_climb p))
      to (no z) x = under_above (branch_at k.parent q (sym (rw (ne_eqb q 0 z) refl) ∙ x))

      back : Dec (q ≡ 0) → Above k.parent q p → eqb q 0 || branch k.parent q p ≡ true
      back (yes z) a = rw (eq-eqb q 0 z) refl
      back (no z) a = rw (ne_eqb q 0 z, branch_of_law k.parent q z (parent_range h) b (above_under z a)) refl

  -- who is not above p is not
  pub above_not : {p q : ℕ} → p < 16 → above k p q ≡ false → Above k.parent q p → ⊥
  above_not {p} {q} b x a = false≢true (sym x ∙ (above_means p q b).1 a)
