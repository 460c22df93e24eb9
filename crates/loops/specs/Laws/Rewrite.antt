-- A list is the table of its elements; and a loop that stores one element a turn leaves the table that it meant.
use Rattle.std.specs.Prelude.{◌≡◌, refl, List, ◌≢◌, ℕ, zero, suc, ◌+◌, ◌≤◌, ◌<◌, length, get_or, set}
use Rattle.std.proofs.Common.{ap, sym, ◌∙◌, arith, length-set, get_or-set_same, get_or-set_other, ext_get_or, below_more}
use Rattle.loops.specs.Loops.{tab_from, tab, Filling}

-- the first n elements of l, each by g from its index and itself
abbrev pub each : ℕ → (ℕ → ℕ → ℕ) → List ℕ → List ℕ
each n g l = tab n (λ k. g k (get_or l k 0))

-- ── laws of tables ──
length_from : (f : ℕ → ℕ) (k m : ℕ) → length (tab_from f k m) ≡ m
unfolding tab_from
length_from f k zero = refl
length_from f k (suc m) = ap suc (length_from f (suc k) m)

from_at : (f : ℕ → ℕ) (k m j : ℕ) → j < m → get_or (tab_from f k m) j 0 ≡ f (k + j)
unfolding tab_from
from_at f k zero j h = absurd (omega arith)
from_at f k (suc m) zero h = ap f (omega arith)
from_at f k (suc m) (suc j) h = from_at f (suc k) m j (omega arith) ∙ ap f (omega arith)

pub length_tab : (n : ℕ) (f : ℕ → ℕ) → length (tab n f) ≡ n
length_tab n f = length_from f 0 n

pub tab_at : (n : ℕ) (f : ℕ → ℕ) (k : ℕ) → k < n → get_or (tab n f) k 0 ≡ f k
tab_at n f k h = from_at f 0 n k h ∙ ap f (omega arith)

-- a list of n elements that are f's values is the table of f
pub tab_is : (n : ℕ) (f : ℕ → ℕ) (l : List ℕ) → length l ≡ n → ((k : ℕ) → k < n → get_or l k 0 ≡ f k) → l ≡ tab n f
tab_is n f l h same =
    ext_get_or 0 l _ (h ∙ sym (length_tab n f)) (λ k b. let c : k < n = omega arith in same k c ∙ sym (tab_at n f k c))

-- so a list is the table of its elements
pub tab_get_d_law : (n : ℕ) (l : List ℕ) → length l ≡ n → tab n (λ k. get_or l k 0) ≡ l
tab_get_d_law n l h = sym (tab_is n _ l h (λ k b. refl))

-- and functions that agree below n have the same table
pub tab_ext : (n : ℕ) (f g : ℕ → ℕ) → ((k : ℕ) → k < n → f k ≡ g k) → tab n f ≡ tab n g
tab_ext n f g same = tab_is n g _ (length_tab n f) (λ k b. tab_at n f k b ∙ same k b)

-- ── laws of the loop ──
module _ {g : ℕ → ℕ → ℕ} {l : List ℕ} {n : ℕ} where
  pub fill_start : length l ≡ n → Filling g l n 0 l
  fill_start h = record { within = omega arith; size = h; below = λ k b. absurd (omega arith); above = λ k b. refl }

  module _ {i : ℕ} {s : List ℕ} (inv : Filling g l n i s) where
    -- the store `s[i] = v`
    pub fill_put : {v : ℕ} → i < n → v ≡ g i (get_or s i 0) → Filling g l n (i + 1) (set s i v)
    fill_put {v} h q = record {
      within = omega arith;
      size = rw length-set inv.size;
      below = below_more _ i (λ k b. other k (omega arith) ∙ inv.below k b) here;
      above = λ k b. other k (omega arith) ∙ inv.above k (omega arith);
    }
      where
        other : (k : ℕ) → k ≢ i → get_or (set s i v) k 0 ≡ get_or s k 0
        other k c = get_or-set_other s i k v 0 c

        here : get_or (set s i v) i 0 ≡ g i (get_or l i 0)
        here = get_or-set_same s i v 0 (omega (arith, inv.size)) ∙ q ∙ ap (g i) (inv.above i (omega arith))

    pub fill_tab : n ≤ i → s ≡ each n g l
    fill_tab h = tab_is n _ s inv.size (λ k b. inv.below k (omega arith))
