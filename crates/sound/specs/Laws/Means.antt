-- What a test means, from what its parts mean.
use Rattle.std.specs.Prelude.{◌≡◌, refl, Bool, true, false, cond, not, ◌&&◌, ◌||◌, ◌⊎◌, ◌↔◌, ℕ, ◌≤◌, ◌<◌, leb, ltb, eqb}
use Rattle.std.proofs.lemmas.Bool.{false≢true}
use Rattle.std.proofs.Common.{inl, inr, ⊎_elim, ltb-true, lt-ltb, leb-true, le-leb, eqb-true, eq-eqb}
use Rattle.loops.specs.Loops.{all}
use Rattle.loops.specs.Laws.Every.{all_at, all_of}
use Rattle.tables.specs.State.{Opt, some}
use Rattle.sound.specs.Clauses.{when, has}
use Rattle.sound.specs.Laws.Tests.{and_says, and_true, or_says, or_left, or_right, not_says, not_of, when_says, when_true, has_says, has_true}

pub eq_means : (m n : ℕ) → (eqb m n ≡ true) ↔ (m ≡ n)
eq_means m n = (eqb-true m n, eq-eqb m n)

pub lt_means : (m n : ℕ) → (ltb m n ≡ true) ↔ (m < n)
lt_means m n = (ltb-true m n, lt-ltb m n)

pub le_means : (m n : ℕ) → (leb m n ≡ true) ↔ (m ≤ n)
le_means m n = (leb-true m n, le-leb m n)

pub and_means : {a b : Bool} {A B : Type 0} → (a ≡ true) ↔ A → (b ≡ true) ↔ B → (a && b ≡ true) ↔ (A × B)
and_means f g = (λ q. let z = and_says _ _ q in (f.0 z.0, g.0 z.1), λ h. and_true _ _ (f.1 h.0) (g.1 h.1))

pub or_means : {a b : Bool} {A B : Type 0} → (a ≡ true) ↔ A → (b ≡ true) ↔ B → (a || b ≡ true) ↔ (A ⊎ B)
or_means {a} {b} f g = (
  λ q. ⊎_elim (λ z. inl (f.0 z)) (λ z. inr (g.0 z)) (or_says a b q),
  ⊎_elim (λ z. or_left a b (f.1 z)) (λ z. or_right a b (g.1 z)),
)

pub not_means : {a : Bool} {A : Type 0} → (a ≡ true) ↔ A → (not a ≡ true) ↔ (A → ⊥)
not_means f = (λ q h. not_says _ q (f.1 h), λ n. not_of _ (λ q. n (f.0 q)))

pub if_means : {a b c : Bool} {A B C : Type 0} → (a ≡ true) ↔ A → (b ≡ true) ↔ B → (c ≡ true) ↔ C → (cond a b c ≡ true) ↔ ((A → B) × ((A → ⊥) → C))
if_means {a} {b} {c} {A} {B} {C} f g h = go a f
  where
    go : (a : Bool) → (a ≡ true) ↔ A → (cond a b c ≡ true) ↔ ((A → B) × ((A → ⊥) → C))
    go true f = (λ q. (λ _. g.0 q, λ n. absurd (n (f.0 refl))), λ k. g.1 (k.0 (f.0 refl)))
    go false f = (λ q. (λ x. absurd (false≢true (f.1 x)), λ _. h.0 q), λ k. h.1 (k.1 (λ x. false≢true (f.1 x))))

pub all_means : (n : ℕ) (f : ℕ → Bool) {P : ℕ → Type 0} → ((i : ℕ) → i < n → (f i ≡ true) ↔ P i) → (all n f ≡ true) ↔ ((i : ℕ) → i < n → P i)
all_means n f h = (λ q i b. (h i b).0 (all_at n f q i b), λ k. all_of n f (λ i b. (h i b).1 (k i b)))

module _ {A : Type 0} (o : Opt A) where
  pub when_means : {f : A → Bool} {P : A → Type 0} → ((a : A) → (f a ≡ true) ↔ P a) → (when f o ≡ true) ↔ ((a : A) → o ≡ some a → P a)
  when_means h = (λ q a u. (h a).0 (when_says _ o q a u), λ k. when_true _ o (λ a u. (h a).1 (k a u)))

  pub has_means : {f : A → Bool} {P : A → Type 0} → ((a : A) → (f a ≡ true) ↔ P a) → (has f o ≡ true) ↔ ((a : A) × (o ≡ some a) × P a)
  has_means h = (λ q. let (a, u, v) = has_says _ o q in (a, u, (h a).0 v), λ k. has_true _ o k.0 k.1 ((h k.0).1 k.2))
