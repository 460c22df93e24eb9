-- A loop that returns at its first hit gives what the search gives; and that is the first hit, or there is none.
use Rattle.std.specs.Prelude.{◌≡◌, Bool, true, false, ◌⊎◌}
use Rattle.std.proofs.Math.Path.{refl}
use Rattle.std.proofs.Common.{ap, sym, subst, ◌∙◌, inl, inr, ⊎_elim, add-one, below_more}
use Prim.Native.Nat.{ℕ, zero, suc, ◌+◌, ◌≤◌, ◌<◌, ◌-◌}
use native.Mathlib.Omega.{arith}
use Rattle.loops.specs.Loops.{rest, hit_or, seek, NoneBelow}

-- At i, no number below i was a hit: what the search from 0 gives, the search from i gives.
pub record Seeking {A : Type 0} (f : ℕ → Bool) (hit : ℕ → A) (e : A) (n i : ℕ) : Type 0 where
  pub within : i ≤ n
  pub left : seek f hit e n ≡ rest (hit_or f hit) e i (n - i)

-- s is hit k, and k is the first number below n that f holds of
pub record First {A : Type 0} (f : ℕ → Bool) (hit : ℕ → A) (n k : ℕ) (s : A) : Type 0 where
  pub below : k < n
  pub holds : f k ≡ true
  pub before : NoneBelow f k
  pub is : s ≡ hit k

-- s is e, and f holds of no number below n
pub record None {A : Type 0} (f : ℕ → Bool) (e : A) (n : ℕ) (s : A) : Type 0 where
  pub none : NoneBelow f n
  pub is : s ≡ e

-- what a search that gives s says
abbrev pub Sought : {A : Type 0} → (ℕ → Bool) → (ℕ → A) → A → ℕ → A → Type 0
Sought f hit e n s = ((k : ℕ) × First f hit n k s) ⊎ None f e n s

-- ── laws of the loop ──
module _ {A : Type 0} (step : ℕ → A → A) (e : A) (i n : ℕ) where
  -- one turn at i of a loop up to n
  pub rest_turn : i < n → rest step e i (n - i) ≡ step i (rest step e (i + 1) (n - (i + 1)))
  unfolding rest
  rest_turn h = go (n - i) refl
    where
      go : (m : ℕ) → n - i ≡ m → rest step e i m ≡ step i (rest step e (i + 1) (n - (i + 1)))
      go zero q = absurd (omega arith)
      go (suc m) q = let z : n - (i + 1) ≡ m = omega arith in rw (z, add-one) refl

  -- the end of it
  pub rest_end : n ≤ i → rest step e i (n - i) ≡ e
  unfolding rest
  rest_end h = let z : n - i ≡ 0 = omega arith in rw z refl

module _ {A : Type 0} {f : ℕ → Bool} {hit : ℕ → A} {e : A} {n : ℕ} where
  pub seek_start : Seeking f hit e n 0
  seek_start = record { within = omega arith; left = let z : n - 0 ≡ n = omega arith in rw z refl }

  module _ {i : ℕ} (inv : Seeking f hit e n i) where
    pub seek_hit : i < n → f i ≡ true → hit i ≡ seek f hit e n
    seek_hit h q = sym (inv.left ∙ rest_turn _ e i n h ∙ rw q refl)

    pub seek_on : i < n → f i ≡ false → Seeking f hit e n (i + 1)
    seek_on h q = record { within = omega arith; left = inv.left ∙ rest_turn _ e i n h ∙ rw q refl }

    pub seek_end : n ≤ i → e ≡ seek f hit e n
    seek_end h = sym (inv.left ∙ rest_end _ e i n h)

-- ── what a search says ──
module _ {A : Type 0} (f : ℕ → Bool) (hit : ℕ → A) (e : A) (n : ℕ) where
  passed : (i : ℕ) → i ≤ n → NoneBelow f i → Seeking f hit e n i
  passed zero h none = seek_start
  passed (suc i) h none =
      subst (Seeking f hit e n) (add-one i)
      (seek_on (passed i (omega arith) (λ j b. none j (omega arith))) h (none i (omega arith)))

  -- the first hit is what the search gives
  pub seek_first : (k : ℕ) → k < n → f k ≡ true → NoneBelow f k → seek f hit e n ≡ hit k
  seek_first k h q none = sym (seek_hit (passed k (omega arith) none) h q)

  -- where there is no hit, it gives e
  pub seek_none : NoneBelow f n → seek f hit e n ≡ e
  seek_none none = sym (seek_end (passed n (omega arith) none) (omega arith))

  sought_to : (m : ℕ) → m ≤ n → ((k : ℕ) × First f hit n k (seek f hit e n)) ⊎ NoneBelow f m
  sought_to zero h = inr (λ j b. absurd (omega arith))
  sought_to (suc m) h = go (sought_to m (omega arith)) (f m) refl
    where
      go : ((k : ℕ) × First f hit n k (seek f hit e n)) ⊎ NoneBelow f m → (b : Bool) → f m ≡ b
          → ((k : ℕ) × First f hit n k (seek f hit e n)) ⊎ NoneBelow f (suc m)
      go (inl r) b q = inl r
      go (inr none) true q =
          inl (m, record { below = h; holds = q; before = none; is = seek_first m h q none })
      go (inr none) false q = inr (λ j b. below_more (λ j. f j ≡ false) m none q j (omega arith))

  -- a search gives its first hit, or there is none
  pub seek_law : Sought f hit e n (seek f hit e n)
  seek_law =
      ⊎_elim inl (λ none. inr (record { none = none; is = seek_none none })) (sought_to n (omega arith))

-- searches that have the same hits give the same
pub seek_ext : {A : Type 0} (f g : ℕ → Bool) (hit get : ℕ → A) (e : A) (n : ℕ)
    → ((k : ℕ) → k < n → f k ≡ g k) → ((k : ℕ) → k < n → hit k ≡ get k) → seek f hit e n ≡ seek g get e n
seek_ext f g hit get e n test value = go (seek_law g get e n)
  where
    go : Sought g get e n (seek g get e n) → seek f hit e n ≡ seek g get e n
    go (inl (k, r)) =
        seek_first f hit e n k r.below (test k r.below ∙ r.holds) (λ j b. test j (omega (arith, r.below)) ∙ r.before j b)
        ∙ value k r.below
        ∙ sym r.is
    go (inr r) = seek_none f hit e n (λ j b. test j b ∙ r.none j b) ∙ sym r.is

-- a function of what a search gives is a search for the function's values
pub seek_map : {A B : Type 0} (g : A → B) (f : ℕ → Bool) (hit : ℕ → A) (e : A) (n : ℕ)
    → g (seek f hit e n) ≡ seek f (λ k. g (hit k)) (g e) n
seek_map g f hit e n = go (seek_law f hit e n)
  where
    go : Sought f hit e n (seek f hit e n) → g (seek f hit e n) ≡ seek f (λ k. g (hit k)) (g e) n
    go (inl (k, r)) =
        ap g r.is ∙ sym (seek_first f (λ k. g (hit k)) (g e) n k r.below r.holds r.before)
    go (inr r) = ap g r.is ∙ sym (seek_none f (λ k. g (hit k)) (g e) n r.none)
