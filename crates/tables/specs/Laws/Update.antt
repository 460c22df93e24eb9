-- At its place stands the new value, and everywhere else the old one.
use Rattle.std.specs.Prelude.{◌≡◌, refl, ◌⊎◌, ℕ}
use Rattle.std.proofs.Common.{ap, ap₂, sym, ◌∙◌, inl, inr}
use Rattle.std.proofs.Math.Decide.{ℕ_discrete}
use Rattle.tables.specs.State.{Opt, none, some}
use Rattle.tables.specs.Laws.State.{not_none}
use Rattle.tables.specs.Update.{pick, upd1, both?, upd}

pub pick_yes : {P A : Type 0} (d : Dec P) (a b : A) → P → pick d a b ≡ a
unfolding pick
pick_yes (yes _) a b h = refl
pick_yes (no f) a b h = absurd (f h)

pub pick_no : {P A : Type 0} (d : Dec P) (a b : A) → (P → ⊥) → pick d a b ≡ b
unfolding pick
pick_no (yes p) a b h = absurd (h p)
pick_no (no f) a b h = refl

-- ── of one number ──
module _ {A : Type 0} (f : ℕ → A) (p : ℕ) (a : A) (q : ℕ) where
  pub upd1_same : q ≡ p → upd1 f p a q ≡ a
  unfolding upd1
  upd1_same h = pick_yes (ℕ_discrete q p) a (f q) h

  pub upd1_other : (q ≡ p → ⊥) → upd1 f p a q ≡ f q
  unfolding upd1
  upd1_other h = pick_no (ℕ_discrete q p) a (f q) h

  -- a value of the new function is the one written, or an old one
  pub upd1_from : {b : A} → upd1 f p a q ≡ b → ((q ≡ p) × (a ≡ b)) ⊎ ((q ≡ p → ⊥) × (f q ≡ b))
  upd1_from {b} h = go (ℕ_discrete q p)
    where
      go : Dec (q ≡ p) → ((q ≡ p) × (a ≡ b)) ⊎ ((q ≡ p → ⊥) × (f q ≡ b))
      go (yes z) = inl (z, sym (upd1_same z) ∙ h)
      go (no z) = inr (z, sym (upd1_other z) ∙ h)

-- a function of two numbers with another row
module _ {A : Type 0} (f : ℕ → ℕ → A) (p : ℕ) (a : ℕ → A) (q j : ℕ) where
  pub row_same : q ≡ p → upd1 f p a q j ≡ a j
  row_same z = ap (λ (g : ℕ → A). g j) (upd1_same f p a q z)

  pub row_other : (q ≡ p → ⊥) → upd1 f p a q j ≡ f q j
  row_other z = ap (λ (g : ℕ → A). g j) (upd1_other f p a q z)

-- ── of two numbers ──
module _ {A : Type 0} (f : ℕ → ℕ → A) (p i : ℕ) (a : A) (q j : ℕ) where
  pub upd_same : (q ≡ p) × (j ≡ i) → upd f p i a q j ≡ a
  unfolding upd
  upd_same h = pick_yes (both? p i q j) a (f q j) h

  pub upd_other : ((q ≡ p) × (j ≡ i) → ⊥) → upd f p i a q j ≡ f q j
  unfolding upd
  upd_other h = pick_no (both? p i q j) a (f q j) h

  pub upd_from : {b : A} → upd f p i a q j ≡ b → ((q ≡ p) × (j ≡ i) × (a ≡ b)) ⊎ (((q ≡ p) × (j ≡ i) → ⊥) × (f q j ≡ b))
  upd_from {b} h = go (both? p i q j)
    where
      go : Dec ((q ≡ p) × (j ≡ i)) → ((q ≡ p) × (j ≡ i) × (a ≡ b)) ⊎ (((q ≡ p) × (j ≡ i) → ⊥) × (f q j ≡ b))
      go (yes z) = inl (z.0, z.1, sym (upd_same z) ∙ h)
      go (no z) = inr (z, sym (upd_other z) ∙ h)

-- what is there where something was taken away was there
pub upd_none : {A : Type 0} (f : ℕ → ℕ → Opt A) (p i q j : ℕ) {a : A} → upd f p i none q j ≡ some a → f q j ≡ some a
upd_none f p i q j {a} u = go (upd_from f p i none q j u)
  where
    go : ((q ≡ p) × (j ≡ i) × (none ≡ some a)) ⊎ (((q ≡ p) × (j ≡ i) → ⊥) × (f q j ≡ some a)) → f q j ≡ some a
    go (inl (_, _, z)) = not_none none refl z
    go (inr (_, v)) = v

-- ── a function with the value that it has ──
pub upd1_keep : {A : Type 0} (f : ℕ → A) (p : ℕ) → upd1 f p (f p) ≡ f
upd1_keep f p = λ x q. at q (ℕ_discrete q p) x
  where
    at : (q : ℕ) → Dec (q ≡ p) → upd1 f p (f p) q ≡ f q
    at q (yes z) = upd1_same f p (f p) q z ∙ ap f (sym z)
    at q (no z) = upd1_other f p (f p) q z

pub upd_keep : {A : Type 0} (f : ℕ → ℕ → A) (p i : ℕ) → upd f p i (f p i) ≡ f
upd_keep f p i = λ x q j. at q j (both? p i q j) x
  where
    at : (q j : ℕ) → Dec ((q ≡ p) × (j ≡ i)) → upd f p i (f p i) q j ≡ f q j
    at q j (yes z) = upd_same f p i (f p i) q j z ∙ ap₂ f (sym z.0) (sym z.1)
    at q j (no z) = upd_other f p i (f p i) q j z
