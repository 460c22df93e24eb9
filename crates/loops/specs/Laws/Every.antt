-- What `all` and `any` say and what makes them so; tests that agree below n give the same; and one number more.
use Rattle.std.specs.Prelude.{◌≡◌, refl, Bool, true, false, not, ◌&&◌, ◌||◌, ℕ, ◌+◌, ◌<◌}
use Rattle.std.proofs.Common.{ap, sym, ◌∙◌, true≢false, inl, inr, arith, below_more}
use Rattle.std.proofs.lemmas.Bool.{false≢true, not-true, not-false}
use Rattle.std.proofs.Math.Bool.{not-not}
use Rattle.loops.specs.Laws.Scan.{Seeking, Sought, seek_law, seek_none, seek_ext, seek_map}
use Rattle.loops.specs.Loops.{NoneBelow, any, all}

-- At i, f held of no number below i: with the laws of `Seeking`, for a loop that returns true where f holds and gives `any n f`.
abbrev pub Missing : (ℕ → Bool) → ℕ → ℕ → Type 0
Missing f n i = Seeking f (λ k. true) false n i

-- At i, f held of every number below i: likewise, for a loop that returns false where f fails and gives `all n f`.
abbrev pub Passing : (ℕ → Bool) → ℕ → ℕ → Type 0
Passing f n i = Seeking (λ k. not (f k)) (λ k. false) true n i

-- two flags that are true together are equal
pub bool_ext : (a b : Bool) → (a ≡ true → b ≡ true) → (b ≡ true → a ≡ true) → a ≡ b
bool_ext true true to back = refl
bool_ext false false to back = refl
bool_ext true false to back = absurd (false≢true (to refl))
bool_ext false true to back = absurd (false≢true (back refl))

-- ── what the answers say: `-at` reads one, `-of` gives it ──
module _ (n : ℕ) (f : ℕ → Bool) where
  pub none_of : NoneBelow f n → any n f ≡ false
  none_of h = seek_none _ _ _ n h

  pub none_at : any n f ≡ false → NoneBelow f n
  none_at q = go (seek_law _ _ _ n)
    where
      go : Sought f (λ k. true) false n (any n f) → NoneBelow f n
      go (inl (k, r)) = absurd (false≢true (sym q ∙ r.is))
      go (inr r) = r.none

  pub any_at : any n f ≡ true → (k : ℕ) × (k < n) × (f k ≡ true)
  any_at q = go (seek_law _ _ _ n)
    where
      go : Sought f (λ k. true) false n (any n f) → (k : ℕ) × (k < n) × (f k ≡ true)
      go (inl (k, r)) = (k, r.below, r.holds)
      go (inr r) = absurd (true≢false (sym q ∙ r.is))

  pub any_of : (k : ℕ) → k < n → f k ≡ true → any n f ≡ true
  any_of k b q = go (any n f) refl
    where
      go : (a : Bool) → any n f ≡ a → a ≡ true
      go true e = refl
      go false e = sym (none_at e k b) ∙ q

-- not every number is so where some number is not
pub not_all : (n : ℕ) (f : ℕ → Bool) → not (all n f) ≡ any n (λ k. not (f k))
not_all n f = seek_map not (λ k. not (f k)) (λ k. false) true n

module _ (n : ℕ) (f : ℕ → Bool) where
  pub all_of : ((k : ℕ) → k < n → f k ≡ true) → all n f ≡ true
  all_of h = seek_none _ _ _ n (λ k b. ap not (h k b))

  pub all_at : all n f ≡ true → (k : ℕ) → k < n → f k ≡ true
  all_at q k b = not-false (f k) (none_at n (λ k. not (f k)) (sym (not_all n f) ∙ ap not q) k b)

  pub fail_of : (k : ℕ) → k < n → f k ≡ false → all n f ≡ false
  fail_of k b q = not-true (all n f) (not_all n f ∙ any_of n (λ k. not (f k)) k b (ap not q))

  pub fail_at : all n f ≡ false → (k : ℕ) × (k < n) × (f k ≡ false)
  fail_at q =
      let (k, b, r) = any_at n (λ k. not (f k)) (sym (not_all n f) ∙ ap not q) in
      (k, b, not-true (f k) r)

-- ── tests that say the same ──
-- tests that agree below n
module _ (n : ℕ) (f g : ℕ → Bool) (same : (k : ℕ) → k < n → f k ≡ g k) where
  pub any_ext : any n f ≡ any n g
  any_ext = seek_ext f g _ _ _ n same (λ k b. refl)

  pub all_ext : all n f ≡ all n g
  all_ext = seek_ext _ _ _ _ _ n (λ k b. ap not (same k b)) (λ k b. refl)

-- some number is so where not every number is not
pub not_any : (n : ℕ) (f : ℕ → Bool) → any n f ≡ not (all n (λ k. not (f k)))
not_any n f = sym (not_all n (λ k. not (f k)) ∙ any_ext n _ f (λ k b. not-not (f k)))

pub all_true : (n : ℕ) → all n (λ k. true) ≡ true
all_true n = all_of n (λ k. true) (λ k b. refl)

-- there is no number below 0
pub all_zero : (f : ℕ → Bool) → all 0 f ≡ true
all_zero f = all_of 0 f (λ k b. absurd (omega arith))

-- one number more
module _ (n : ℕ) (f : ℕ → Bool) where
  pub any_more : any (n + 1) f ≡ any n f || f n
  any_more = go (any n f) (f n) refl refl
    where
      go : (a b : Bool) → any n f ≡ a → f n ≡ b → any (n + 1) f ≡ a || b
      go true b p q = let (k, l, r) = any_at n f p in any_of (n + 1) f k (omega arith) r
      go false true p q = any_of (n + 1) f n (omega arith) q
      go false false p q = none_of (n + 1) f (below_more (λ k. f k ≡ false) n (none_at n f p) q)

  pub all_more : all (n + 1) f ≡ all n f && f n
  all_more = go (all n f) (f n) refl refl
    where
      go : (a b : Bool) → all n f ≡ a → f n ≡ b → all (n + 1) f ≡ a && b
      go false b p q = let (k, l, r) = fail_at n f p in fail_of (n + 1) f k (omega arith) r
      go true false p q = fail_of (n + 1) f n (omega arith) q
      go true true p q = all_of (n + 1) f (below_more (λ k. f k ≡ true) n (all_at n f p) q)
