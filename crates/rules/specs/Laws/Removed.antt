-- Records set to zero: what is still there was there, and its partition stays.
use Rattle.std.specs.Prelude.{◌≡◌, refl, Bool, true, false, cond, ℕ}
use Rattle.tables.specs.State.{Opt, none, some}
use Rattle.tables.specs.Laws.State.{not_none}
use Rattle.rules.specs.Rules.{records_zero}

pub records_was : {A : Type 0} (m : ℕ → Bool) (f : ℕ → ℕ → Opt A) (q i : ℕ) {a : A} → records_zero m (λ j. none) f q i ≡ some a → (f q i ≡ some a) × (m q ≡ false)
records_was m f q i {a} u = go (m q) refl u
  where
    go : (b : Bool) → m q ≡ b → cond b (λ j. none) (f q) i ≡ some a → (f q i ≡ some a) × (m q ≡ false)
    go true z u = not_none none refl u
    go false z u = (u, z)
