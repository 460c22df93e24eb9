-- Two slots written: slot s of c holds x, then slot n of q holds y.
use Rattle.std.specs.Prelude.{◌≡◌, refl, ℕ}
use Rattle.std.proofs.Common.{sym, ◌∙◌}
use Rattle.tables.specs.State.{Opt, some, Entry, Same}
use Rattle.tables.specs.Laws.State.{same_at}
use Rattle.tables.specs.Update.{upd, both?}
use Rattle.tables.specs.Laws.Update.{upd_same, upd_other}
use Rattle.isolation.specs.Laws.Keep.{Has}

-- where an entry of the new slots comes from: it was there, or it was written first or second
pub data From (f : ℕ → ℕ → Opt Entry) (c s : ℕ) (x : Opt Entry) (q n : ℕ) (y : Opt Entry) (p i : ℕ) (e : Entry) : Type 0 where
  old : f p i ≡ some e → ((p ≡ c) × (i ≡ s) → ⊥) → ((p ≡ q) × (i ≡ n) → ⊥) → From f c s x q n y p i e
  first : p ≡ c → i ≡ s → x ≡ some e → From f c s x q n y p i e
  second : p ≡ q → i ≡ n → y ≡ some e → From f c s x q n y p i e

-- what a slot holds is one thing
pub same_place : (f : ℕ → ℕ → Opt Entry) {c s p i : ℕ} {a e : Entry} → f c s ≡ some e → f p i ≡ some a → (p ≡ c) × (i ≡ s) → Same a e
same_place f {c} {s} u v z = same_at (f c s) (rw (z.0, z.1) at v) u

module _ (f : ℕ → ℕ → Opt Entry) (c s : ℕ) (x : Opt Entry) (q n : ℕ) (y : Opt Entry) where
  abbrev pub two : ℕ → ℕ → Opt Entry
  two = upd (upd f c s x) q n y

  pub two_from : (p i : ℕ) (e : Entry) → two p i ≡ some e → From f c s x q n y p i e
  two_from p i e h = go (both? q n p i) (both? c s p i)
    where
      go : Dec ((p ≡ q) × (i ≡ n)) → Dec ((p ≡ c) × (i ≡ s)) → From f c s x q n y p i e
      go (yes a) d = second a.0 a.1 (sym (upd_same (upd f c s x) q n y p i a) ∙ h)
      go (no a) (yes b) = first b.0 b.1 (sym (upd_other (upd f c s x) q n y p i a ∙ upd_same f c s x p i b) ∙ h)
      go (no a) (no b) = old (sym (upd_other (upd f c s x) q n y p i a ∙ upd_other f c s x p i b) ∙ h) b a

  pub two_second : two q n ≡ y
  two_second = upd_same (upd f c s x) q n y q n (refl, refl)

  pub two_first : ((c ≡ q) × (s ≡ n) → ⊥) → two c s ≡ x
  two_first h = upd_other (upd f c s x) q n y c s h ∙ upd_same f c s x c s (refl, refl)

  pub two_old : (p i : ℕ) → ((p ≡ c) × (i ≡ s) → ⊥) → ((p ≡ q) × (i ≡ n) → ⊥) → two p i ≡ f p i
  two_old p i a b = upd_other (upd f c s x) q n y p i b ∙ upd_other f c s x p i a

  -- an entry other than the two written over stays
  pub two_other : {e g : Entry} → f c s ≡ some e → f q n ≡ some g
      → (p i : ℕ) (a : Entry) → f p i ≡ some a → (Same a e → ⊥) → (Same a g → ⊥) → Has two p a
  two_other u v p i a w y z = (i, two_old p i (λ t. y (same_place f u w t)) (λ t. z (same_place f v w t)) ∙ w)
