-- What the tests say: and, or, not, comparisons, a test of what is there, a test of every slot.
use Rattle.std.specs.Prelude.{◌≡◌, Bool, false, not, ◌&&◌, ◌||◌, ◌⊎◌, ℕ, ◌<◌}
use Rattle.std.proofs.Math.Path.{refl}
use Rattle.std.proofs.Math.Bool.{true, and-eq-true_iff}
use Rattle.std.proofs.lemmas.Bool.{false≢true}
use Rattle.std.proofs.Common.{inl, inr}
use Rattle.loops.specs.Loops.{all, any}
use Rattle.loops.specs.Laws.Every.{all_at, all_of, any_at, any_of, bool_ext}
use Rattle.tables.specs.State.{Opt, none, some}
use Rattle.sound.specs.Clauses.{when, has}

pub and_says : (a b : Bool) → a && b ≡ true → (a ≡ true) × (b ≡ true)
and_says a b h = (and-eq-true_iff a b).0 h

pub and_true : (a b : Bool) → a ≡ true → b ≡ true → a && b ≡ true
and_true a b x y = (and-eq-true_iff a b).1 (x, y)

pub or_says : (a b : Bool) → a || b ≡ true → (a ≡ true) ⊎ (b ≡ true)
or_says true b h = inl refl
or_says false b h = inr h

pub or_left : (a b : Bool) → a ≡ true → a || b ≡ true
or_left a b h = rw h refl

pub or_right : (a b : Bool) → b ≡ true → a || b ≡ true
or_right true b h = refl
or_right false b h = h

-- not a || b: b where a holds
pub then_says : (a b : Bool) → not a || b ≡ true → a ≡ true → b ≡ true
then_says true b h x = h
then_says false b h x = absurd (false≢true x)

pub then_true : (a b : Bool) → (a ≡ true → b ≡ true) → not a || b ≡ true
then_true true b f = f refl
then_true false b f = refl

pub not_says : (a : Bool) → not a ≡ true → a ≡ true → ⊥
not_says true h x = false≢true h
not_says false h x = false≢true x

pub not_of : (a : Bool) → (a ≡ true → ⊥) → not a ≡ true
not_of true f = absurd (f refl)
not_of false f = refl

-- ── what is there ──
module _ {A : Type 0} (f : A → Bool) (o : Opt A) where
  pub when_says : when f o ≡ true → (a : A) → o ≡ some a → f a ≡ true
  unfolding when
  when_says h a q = rw q at h

  pub when_true : ((a : A) → o ≡ some a → f a ≡ true) → when f o ≡ true
  unfolding when
  when_true = go o
    where
      go : (o : Opt A) → ((a : A) → o ≡ some a → f a ≡ true) → when f o ≡ true
      go none h = refl
      go (some a) h = h a refl

  pub has_says : has f o ≡ true → (a : A) × (o ≡ some a) × (f a ≡ true)
  unfolding has
  has_says = go o
    where
      go : (o : Opt A) → has f o ≡ true → (a : A) × (o ≡ some a) × (f a ≡ true)
      go none h = absurd (false≢true h)
      go (some a) h = (a, refl, h)

  pub has_true : (a : A) → o ≡ some a → f a ≡ true → has f o ≡ true
  unfolding has
  has_true a q h = rw q h

-- ── of every slot, of some slot ──
module _ {A : Type 0} (n : ℕ) (f : ℕ → A → Bool) (g : ℕ → Opt A) where
  pub every_says : all n (λ i. when (f i) (g i)) ≡ true → (i : ℕ) (a : A) → i < n → g i ≡ some a → f i a ≡ true
  every_says h i a b q = when_says (f i) (g i) (all_at n (λ i. when (f i) (g i)) h i b) a q

  pub every_true : ((i : ℕ) (a : A) → i < n → g i ≡ some a → f i a ≡ true) → all n (λ i. when (f i) (g i)) ≡ true
  every_true h = all_of n (λ i. when (f i) (g i)) (λ i b. when_true (f i) (g i) (λ a q. h i a b q))

  pub some_says : any n (λ i. has (f i) (g i)) ≡ true → (i : ℕ) × (a : A) × (i < n) × (g i ≡ some a) × (f i a ≡ true)
  some_says h =
      let k = any_at n (λ i. has (f i) (g i)) h in
      let w = has_says (f k.0) (g k.0) k.2 in
      (k.0, w.0, k.1, w.1, w.2)

  pub some_true : (i : ℕ) (a : A) → i < n → g i ≡ some a → f i a ≡ true → any n (λ i. has (f i) (g i)) ≡ true
  some_true i a b q h = any_of n (λ i. has (f i) (g i)) i b (has_true (f i) (g i) a q h)

-- two tests of every number
pub all_and : (n : ℕ) (f g : ℕ → Bool) → all n (λ i. f i && g i) ≡ all n f && all n g
all_and n f g = bool_ext _ _ (λ q. and_true _ _ (all_of n f (λ i b. (at q i b).0)) (all_of n g (λ i b. (at q i b).1))) back
  where
    at : all n (λ i. f i && g i) ≡ true → (i : ℕ) → i < n → (f i ≡ true) × (g i ≡ true)
    at q i b = and_says (f i) (g i) (all_at n (λ i. f i && g i) q i b)

    back : all n f && all n g ≡ true → all n (λ i. f i && g i) ≡ true
    back q = let (u, v) = and_says (all n f) (all n g) q in all_of n _ (λ i b. and_true _ _ (all_at n f u i b) (all_at n g v i b))

-- a test that cannot pass is false
pub never : (b : Bool) → (b ≡ true → ⊥) → false ≡ b
never true h = absurd (h refl)
never false h = refl
