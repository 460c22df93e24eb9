-- Sums and counts: their bounds, when they are 0, what one number left out changes; and the loops that add up, count, or count failures meet them.
use Rattle.std.specs.Prelude.{◌≡◌, refl, Bool, true, false, not, ◌&&◌, ◌||◌, ℕ, zero, suc, ◌+◌, ◌*◌, ◌≤◌, ◌<◌}
use Rattle.std.proofs.Common.{ap, ap₂, subst, ◌∙◌, true≢false, suc-mul, add-one, arith, eq-eqb, ne_eqb, eqb-true}
use Rattle.std.proofs.Math.Path.{sym}
use Rattle.std.proofs.Math.Bool.{and-true, and-false, not-not}
use Rattle.std.proofs.lemmas.Bool.{false≢true, eqb-false}
use Rattle.std.proofs.Math.Decide.{ℕ_discrete}
use Rattle.std.proofs.Math.Dec.{eqb}
use Rattle.loops.specs.Loops.{bit_of, all, any, carried, sum, count}
use Rattle.loops.specs.Laws.Bit.{bit_le, bit_zero}
use Rattle.loops.specs.Laws.Every.{not_any, all_ext, all_more, all_zero}
use Rattle.loops.specs.Laws.Carry.{done_none, done_more, done_keeps, done_ext}

-- At i, x is the sum below i, and at most b was added a turn.
pub record Summing (f : ℕ → ℕ) (b n i x : ℕ) : Type 0 where
  pub within : i ≤ n
  pub few : x ≤ i * b
  pub made : x ≡ sum i f

-- At i, f held of x numbers below i.
pub record Counting (f : ℕ → Bool) (n i x : ℕ) : Type 0 where
  pub sums : Summing (λ k. bit_of (f k)) 1 n i x

-- At i, f failed of x numbers below i: for a loop with no early way out that gives `all n f`.
pub record Failing (f : ℕ → Bool) (n i x : ℕ) : Type 0 where
  pub counts : Counting (λ k. not (f k)) n i x

-- ── laws of sums and counts ──
-- x is 0 exactly if a and b are, where it is at least each of them and at most their sum
pub zero_both : (x a b : ℕ) → a ≤ x → b ≤ x → x ≤ a + b → eqb x 0 ≡ eqb a 0 && eqb b 0
zero_both x a b l m u = go (eqb a 0) (eqb b 0) refl refl
  where
    go : (p q : Bool) → eqb a 0 ≡ p → eqb b 0 ≡ q → eqb x 0 ≡ p && q
    go true true p q = eq-eqb x 0 (omega (arith, eqb-true a 0 p, eqb-true b 0 q))
    go true false p q = ne_eqb x 0 (λ z. eqb-false b 0 q (omega arith))
    go false q p r = ne_eqb x 0 (λ z. eqb-false a 0 p (omega arith))

module _ (n : ℕ) (f : ℕ → ℕ) where
  -- one number more
  pub sum_more : sum (n + 1) f ≡ sum n f + f n
  unfolding sum
  sum_more = done_more _ 0 n

  -- n numbers of at most b each
  pub sum_le : (b : ℕ) → ((k : ℕ) → k < n → f k ≤ b) → sum n f ≤ n * b
  unfolding sum
  sum_le b h =
      done_keeps _ 0 (λ k x. x ≤ k * b) n (omega arith)
      (λ k x l q. rw (add-one, suc-mul) (omega (arith, h k l)))

  -- a sum is 0 exactly if each number is
  pub sum_none : eqb (sum n f) 0 ≡ all n (λ k. eqb (f k) 0)
  unfolding sum
  sum_none = done_keeps _ 0 (λ i x. eqb x 0 ≡ all i (λ k. eqb (f k) 0)) n (sym (all_zero (λ k. eqb (f k) 0))) on
    where
      on : (i x : ℕ) → i < n → eqb x 0 ≡ all i (λ k. eqb (f k) 0) → eqb (x + f i) 0 ≡ all (i + 1) (λ k. eqb (f k) 0)
      on i x b q =
          zero_both (x + f i) x (f i) (omega arith) (omega arith) (omega arith)
          ∙ rw q (sym (all_more i (λ k. eqb (f k) 0)))

pub sum_ext : (n : ℕ) (f g : ℕ → ℕ) → ((k : ℕ) → k < n → f k ≡ g k) → sum n f ≡ sum n g
unfolding sum
sum_ext n f g same = done_ext _ _ 0 n (λ k x b. ap (λ (y : ℕ). x + y) (same k b))

pub count_ext : (n : ℕ) (f g : ℕ → Bool) → ((k : ℕ) → k < n → f k ≡ g k) → count n f ≡ count n g
count_ext n f g same = sum_ext n _ _ (λ k b. ap bit_of (same k b))

module _ (n : ℕ) (f : ℕ → Bool) where
  pub count_le : count n f ≤ n
  count_le = omega (arith, sum_le n (λ k. bit_of (f k)) 1 (λ k b. bit_le (f k)))

  -- a count is 0 exactly if f holds of no number
  pub count_none : eqb (count n f) 0 ≡ all n (λ k. not (f k))
  count_none = sum_none n _ ∙ all_ext n _ _ (λ k b. bit_zero (f k))

  -- the count of the failures is 0 exactly if f holds of every number
  pub count_all : eqb (count n (λ k. not (f k))) 0 ≡ all n f
  count_all = sum_none n _ ∙ all_ext n _ _ (λ k b. bit_zero (not (f k)) ∙ not-not (f k))

  -- it is not 0 exactly if f holds of some number
  pub count_any : not (eqb (count n f) 0) ≡ any n f
  count_any = ap not count_none ∙ sym (not_any n f)

-- numbers of two kinds that exclude each other
pub count_apart : (n : ℕ) (f g : ℕ → Bool) → ((k : ℕ) → f k ≡ true → g k ≡ false) → count n (λ k. f k || g k) ≡ count n f + count n g
unfolding sum carried
count_apart zero f g h = refl
count_apart (suc n) f g h = omega (arith, count_apart n f g h, bits (f n) (g n) (h n))
  where
    bits : (a b : Bool) → (a ≡ true → b ≡ false) → bit_of (a || b) ≡ bit_of a + bit_of b
    bits true true q = absurd (true≢false (q refl))
    bits true false q = refl
    bits false true q = refl
    bits false false q = refl

-- of numbers that are each at most the other
pub sum_fewer : (n : ℕ) (f g : ℕ → ℕ) → ((k : ℕ) → k < n → f k ≤ g k) → sum n f ≤ sum n g
unfolding sum carried
sum_fewer zero f g h = omega arith
sum_fewer (suc n) f g h = omega (arith, sum_fewer n f g (λ k b. h k (omega arith)), h n (omega arith))

-- a sum is no less than one of its numbers
pub sum_at : (n : ℕ) (f : ℕ → ℕ) (x : ℕ) → x < n → f x ≤ sum n f
unfolding sum carried
sum_at zero f x b = omega arith
sum_at (suc n) f x b = go (ℕ_discrete x n) (sum_at n f x)
  where
    go : Dec (x ≡ n) → (x < n → f x ≤ sum n f) → f x ≤ sum (suc n) f
    go (yes q) h = rw q (omega arith)
    go (no q) h = omega (arith, h (omega (arith, q)))

-- of fewer numbers
pub count_fewer : (n : ℕ) (f g : ℕ → Bool) → ((k : ℕ) → f k ≡ true → g k ≡ true) → count n f ≤ count n g
count_fewer n f g h = sum_fewer n _ _ (λ k b. bits (f k) (g k) (h k))
  where
    bits : (a b : Bool) → (a ≡ true → b ≡ true) → bit_of a ≤ bit_of b
    bits true true q = omega arith
    bits true false q = absurd (false≢true (q refl))
    bits false b q = omega arith

-- ── one number left out ──
-- f, but not of x
abbrev pub without : (ℕ → Bool) → ℕ → ℕ → Bool
without f x k = f k && not (eqb k x)

pub without_same : (f : ℕ → Bool) (x : ℕ) → without f x x ≡ false
without_same f x = rw (eq-eqb x x refl) (and-false (f x))

pub without_other : (f : ℕ → Bool) (x k : ℕ) → (k ≡ x → ⊥) → without f x k ≡ f k
without_other f x k h = rw (ne_eqb k x h) (and-true (f k))

-- a count without one number that counts is one less
pub count_without : (f : ℕ → Bool) (x n : ℕ) → x < n → f x ≡ true → count n f ≡ count n (without f x) + 1
unfolding sum carried
count_without f x zero h q = absurd (omega arith)
count_without f x (suc n) h q = go (ℕ_discrete x n) (count_without f x n)
  where
    go : Dec (x ≡ n) → (x < n → f x ≡ true → count n f ≡ count n (without f x) + 1) → count (suc n) f ≡ count (suc n) (without f x) + 1
    go (yes z) ih =
        let here = ap bit_of (subst (λ (k : ℕ). f k ≡ true) z q) in
        let gone = ap bit_of (subst (λ (k : ℕ). without f x k ≡ false) z (without_same f x)) in
        let below = count_ext n (without f x) f (λ k b. without_other f x k (λ e. omega arith)) in
        omega (arith, here, gone, below)
    go (no z) ih = omega (arith, ih (omega arith) q, ap bit_of (without_other f x n (λ e. omega arith)))

-- one number equals x
pub count_one : (n x : ℕ) → x < n → count n (λ k. eqb k x) ≡ 1
count_one n x h =
    let none = sum_le n (λ k. bit_of (without (λ k. eqb k x) x k)) 0 (λ k b. omega (arith, ap bit_of (no k (eqb k x)))) in
    omega (arith, count_without (λ k. eqb k x) x n h (eq-eqb x x refl))
  where
    no : (k : ℕ) (b : Bool) → b && not b ≡ false
    no k true = refl
    no k false = refl

-- ── laws of the loops ──
module _ {f : ℕ → ℕ} {b n : ℕ} where
  pub sum_start : Summing f b n 0 0
  unfolding sum
  sum_start = record { within = omega arith; few = omega arith; made = sym (done_none _ 0) }

  module _ {i x : ℕ} (inv : Summing f b n i x) where
    pub sum_on : {y : ℕ} → i < n → y ≡ f i → y ≤ b → Summing f b n (i + 1) (x + y)
    sum_on {y} h q l = record {
      within = omega arith;
      few = rw (add-one, suc-mul) (omega arith);
      made = ap₂ ◌+◌ inv.made q ∙ sym (sum_more i f);
    }

    pub sum_end : n ≤ i → x ≡ sum n f
    sum_end h = let z : i ≡ n = omega (arith, inv.within) in rw (← z) inv.made

module _ {f : ℕ → Bool} {n : ℕ} where
  pub count_start : Counting f n 0 0
  count_start = record { sums = sum_start }

  module _ {i x : ℕ} (inv : Counting f n i x) where
    -- x grows by a bit
    pub count_on : {y : ℕ} → i < n → y ≡ bit_of (f i) → Counting f n (i + 1) (x + y)
    count_on h q = record { sums = sum_on inv.sums h q (omega (arith, bit_le (f i))) }

    -- x grows by 1, or stays
    pub count_yes : {y : ℕ} → i < n → f i ≡ true → y ≡ x + 1 → Counting f n (i + 1) y
    count_yes h q e = rw e (count_on h (sym (ap bit_of q)))

    pub count_no : {y : ℕ} → i < n → f i ≡ false → y ≡ x → Counting f n (i + 1) y
    count_no h q e = let z : x + 0 ≡ x = omega arith in rw (e, ← z) (count_on h (sym (ap bit_of q)))

    pub count_end : n ≤ i → x ≡ count n f
    count_end h = sum_end inv.sums h

module _ {f : ℕ → Bool} {n : ℕ} where
  pub fail_start : Failing f n 0 0
  fail_start = record { counts = count_start }

  module _ {i x : ℕ} (inv : Failing f n i x) where
    pub fail_on : {y : ℕ} → i < n → y ≡ bit_of (not (f i)) → Failing f n (i + 1) (x + y)
    fail_on h q = record { counts = count_on inv.counts h q }

    pub fail_end : n ≤ i → eqb x 0 ≡ all n f
    fail_end h = ap (λ (y : ℕ). eqb y 0) (count_end inv.counts h) ∙ count_all n f
