-- Recursions that loops meet, each said once: a search, a test of all and of some, a carried value, sums, a climb over parents, a mask, a map of bits, a list.
use Rattle.std.specs.Prelude.{◌≡◌, Bool, false, cond, true, not, ℕ, zero, suc, ◌<◌, ◌+◌, ◌*◌, ◌/◌, ◌%◌, ◌^◌, ◌≤◌, eqb, List, [], ◌∷◌, length, get_or}

-- ── a search: the first number below n that a test holds of; a loop that counts up and returns at its first hit meets it ──
-- step k (step (k + 1) (.. e)): the m steps from k on, the last one innermost
unfoldable pub rest : {A : Type 0} → (ℕ → A → A) → A → ℕ → ℕ → A
rest step e k zero = e
rest step e k (suc m) = step k (rest step e (suc k) m)

-- hit k where f holds of k, and r where not
abbrev pub hit_or : {A : Type 0} → (ℕ → Bool) → (ℕ → A) → ℕ → A → A
hit_or f hit k r = cond (f k) (hit k) r

-- hit k for the first k below n that f holds of, and e where there is none
abbrev pub seek : {A : Type 0} → (ℕ → Bool) → (ℕ → A) → A → ℕ → A
seek f hit e n = rest (hit_or f hit) e 0 n

-- f holds of no number below n
abbrev pub NoneBelow : (ℕ → Bool) → ℕ → Type 0
NoneBelow f n = (j : ℕ) → j < n → f j ≡ false

-- ── a test of every number below n, and of some; a loop that returns at the first number that decides meets it ──
-- f holds of some number below n
abbrev pub any : ℕ → (ℕ → Bool) → Bool
any n f = seek f (λ k. true) false n

-- f holds of every number below n
abbrev pub all : ℕ → (ℕ → Bool) → Bool
all n f = seek (λ k. not (f k)) (λ k. false) true n

-- ── a loop that carries a value: each turn makes the next of it ──
-- step (n - 1) (.. (step 0 e)): what n turns make of e
unfoldable pub carried : {A : Type 0} → (ℕ → A → A) → A → ℕ → A
carried step e zero = e
carried step e (suc n) = step n (carried step e n)

-- ── a flag as a bit ──
-- 1 for true, 0 for false
abbrev pub bit_of : Bool → ℕ
bit_of true = 1
bit_of false = 0

-- ── sums and counts over the numbers below n; a loop that adds up meets them ──
-- f 0 + f 1 + .. + f (n - 1)
unfoldable pub sum : ℕ → (ℕ → ℕ) → ℕ
sum n f = carried (λ k x. x + f k) 0 n

-- of how many numbers below n f holds
abbrev pub count : ℕ → (ℕ → Bool) → ℕ
count n f = sum n (λ k. bit_of (f k))

-- ── recursion over parents: from a number up to the root 0, a bounded number of steps; a function that calls itself at the parent meets it ──
module _ {A : Type 0} (up : ℕ → ℕ) (root : ℕ → A) (lost : A) (step : ℕ → A → A) where
  -- From p, with n steps left: at 0 `root` of the steps left, elsewhere `step` of what the parent gives, or `lost` where no step is left.
  unfoldable pub climb : ℕ → ℕ → A
  climb p zero = cond (eqb p 0) (root 0) lost
  climb p (suc n) = cond (eqb p 0) (root (suc n)) (step p (climb (up p) n))

-- p gets to 0 in at most n steps
pub data Reaches (up : ℕ → ℕ) : ℕ → ℕ → Type 0 where
  at_root : {n p : ℕ} → p ≡ 0 → Reaches up n p
  by_step : {n p : ℕ} → Reaches up n (up p) → Reaches up (suc n) p

-- the test whether it does
abbrev pub reaches : (ℕ → ℕ) → ℕ → ℕ → Bool
reaches up n p = climb up (λ k. true) false (λ q r. r) p n

-- ── a mask ──
-- bit i, 0 or 1, bit 0 the least significant
abbrev pub bit : ℕ → ℕ → ℕ
bit m i = m / 2 ^ i % 2 ^ 1

-- whether it is set
unfoldable pub names : ℕ → ℕ → Bool
names m i = eqb (bit m i) 1

-- ── a map of bits: bit i says whether a test holds of i, bit 0 the least significant; its trailing zeros are the first hit ──
-- the n bits from i on, that of i the least significant
unfoldable pub map_from : (ℕ → Bool) → ℕ → ℕ → ℕ
map_from f i zero = 0
map_from f i (suc n) = bit_of (f i) + 2 * map_from f (suc i) n

-- the bits of the numbers below n
abbrev pub map_of : ℕ → (ℕ → Bool) → ℕ
map_of n f = map_from f 0 n

-- ── a list as a table of a function, and a loop that rewrites a list in place, one element a turn ──
-- f k, f (k + 1), .., m of them
unfoldable pub tab_from : (ℕ → ℕ) → ℕ → ℕ → List ℕ
tab_from f k zero = []
tab_from f k (suc m) = f k ∷ tab_from f (suc k) m

-- f 0, f 1, .., f (n - 1)
abbrev pub tab : ℕ → (ℕ → ℕ) → List ℕ
tab n f = tab_from f 0 n

-- At i, s is l, of length n, with the elements below i rewritten by g.
pub record Filling (g : ℕ → ℕ → ℕ) (l : List ℕ) (n i : ℕ) (s : List ℕ) : Type 0 where
  pub within : i ≤ n
  pub size : length s ≡ n
  pub below : (k : ℕ) → k < i → get_or s k 0 ≡ g k (get_or l k 0)
  pub above : (k : ℕ) → i ≤ k → get_or s k 0 ≡ get_or l k 0
