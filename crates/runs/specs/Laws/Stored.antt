-- A list whose first records are stored one by one, as a loop stores them: the first n values of a function, and then the rest of the list.
use Rattle.std.specs.Prelude.{◌≡◌, refl, ℕ, zero, suc, ◌≤◌, ◌<◌, ◌+◌, List, [], ◌∷◌, ◌++◌, length, set, drop, get_or}
use Rattle.std.proofs.Common.{sym, ap, subst, ◌∙◌, add-one, arith, length-set, length-append, drop-cons, ext_get_or}
use Rattle.std.proofs.Math.Decide.{ℕ_discrete}
use Rattle.std.proofs.Math.ListN.{get_or-append}
use Rattle.std.proofs.Math.Seq.{set-append_seam, append_snoc}
use Rattle.std.proofs.lemmas.List.{get_or_at}

module _ {A : Type 0} (f : ℕ → A) where
  -- f 0, f 1, .., f (n - 1)
  abbrev pub firsts : ℕ → List A
  firsts zero = []
  firsts (suc n) = firsts n ++ (f n ∷ [])

  -- xs with f 0 at 0, .., f (i - 1) at i - 1
  abbrev pub stored_to : ℕ → List A → List A
  stored_to zero xs = xs
  stored_to (suc i) xs = set (stored_to i xs) i (f i)

  pub length_stored_to : (i : ℕ) (xs : List A) → length (stored_to i xs) ≡ length xs
  length_stored_to zero xs = refl
  length_stored_to (suc i) xs = length-set (stored_to i xs) i (f i) ∙ length_stored_to i xs

  pub length_firsts : (n : ℕ) → length (firsts n) ≡ n
  length_firsts zero = refl
  length_firsts (suc n) = length-append (firsts n) (f n ∷ []) ∙ ap (λ (k : ℕ). k + 1) (length_firsts n) ∙ add-one n

  next : (R Z xs : List A) (n : ℕ) (y : A) → length R ≡ n → xs ≡ R ++ y ∷ Z → set xs n (f n) ≡ R ++ (f n ∷ []) ++ Z
  next R Z xs n y l e =
      ap (λ (ws : List A). set ws n (f n)) e ∙ subst (λ (k : ℕ). set (R ++ y ∷ Z) k (f n) ≡ R ++ f n ∷ Z) l (set-append_seam R y Z (f n)) ∙ sym (append_snoc R (f n) Z)

  -- where xs is long enough: the first values, and then xs
  pub stored_to_is : (i : ℕ) (xs : List A) → i ≤ length xs → stored_to i xs ≡ firsts i ++ drop i xs
  stored_to_is zero xs l = refl
  stored_to_is (suc i) xs l =
      next (firsts i) (drop (suc i) xs) (stored_to i xs) i (get_or xs i (f i)) (length_firsts i) (stored_to_is i xs (omega (arith, l)) ∙ ap (λ (r : List A). firsts i ++ r) (drop-cons xs i (f i) l))

-- ── as the list of a function's first values ──
pub firsts_at : {A : Type 0} (f : ℕ → A) (n i : ℕ) (d : A) → i < n → get_or (firsts f n) i d ≡ f i
firsts_at f zero i d h = absurd (omega arith)
firsts_at f (suc n) i d h = go (ℕ_discrete i n) (firsts_at f n i d)
  where
    go : Dec (i ≡ n) → (i < n → get_or (firsts f n) i d ≡ f i) → get_or (firsts f n ++ (f n ∷ [])) i d ≡ f i
    go (yes z) _ = rw z (get_or_at (firsts f n) (f n) [] d n (length_firsts f n))
    go (no z) g = get_or-append (firsts f n) (f n ∷ []) d i (omega (arith, length_firsts f n)) ∙ g (omega arith)

-- a list is that of the function that reads it
pub firsts_is : {A : Type 0} (f : ℕ → A) (d : A) (xs : List A) → ((i : ℕ) → i < length xs → f i ≡ get_or xs i d) → firsts f (length xs) ≡ xs
firsts_is f d xs h = ext_get_or d (firsts f (length xs)) xs (length_firsts f (length xs)) (λ i b. let c : i < length xs = omega (arith, length_firsts f (length xs)) in firsts_at f (length xs) i d c ∙ h i c)
