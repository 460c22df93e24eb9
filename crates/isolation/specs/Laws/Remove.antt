-- Partitions are removed: a child c of the caller, and with a partition that goes all that hang on it. Their records are zero; what the caller gave to c is
-- given to nobody. Delete removes c alone, clear out its branch.
use Rattle.std.specs.Prelude.{◌≡◌, refl, ◌⊎◌, Bool, true, false, ℕ}
use Rattle.std.proofs.Common.{ap, ◌∙◌, inl, inr}
use Rattle.std.proofs.Math.Path.{sym}
use Rattle.std.proofs.lemmas.Bool.{false≢true}
use Rattle.tables.specs.State.{some, Entry, K}
use Rattle.sound.specs.Core.{Core}
use Rattle.sound.specs.Properties.{Child}

-- m goes: c, a child of the caller, who stays, as the root does; who goes is c or hangs on one who goes; who hangs on one who goes goes
pub record Goes (k : K) (c : ℕ) (m : ℕ → Bool) : Type 0 where
  pub child : Child k k.current c
  pub itself : m c ≡ true
  pub root : m 0 ≡ false
  pub caller : m k.current ≡ false
  pub up : (q : ℕ) → m q ≡ true → (q ≡ c) ⊎ (m (k.parent q) ≡ true)
  pub down : (p q : ℕ) → Child k p q → m p ≡ true → m q ≡ true

module _ {k : K} {c : ℕ} {m : ℕ → Bool} (h : Core k) (ok : Goes k c m) where
  -- one who stays gave nothing to one who goes, but to c
  pub kept_given : (p i : ℕ) (a : Entry) → k.slot p i ≡ some a → m p ≡ false → (a.given ≡ c → ⊥) → m a.given ≡ false
  kept_given p i a u n g = go (m a.given) refl
    where
      on : m a.given ≡ true → (a.given ≡ c) ⊎ (m (k.parent a.given) ≡ true) → ⊥
      on z (inl y) = g y
      on z (inr y) = false≢true (sym (ap m (h.s7_given_law p i a u (λ w. false≢true (sym ok.root ∙ ap m (sym w) ∙ z))).1 ∙ n) ∙ y)

      go : (b : Bool) → m a.given ≡ b → b ≡ false
      go true z = absurd (on z (ok.up a.given z))
      go false z = refl
