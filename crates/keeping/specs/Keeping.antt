-- Numbers of 32 bits in the place of words.
use Rattle.std.specs.Prelude.{◌≡◌, cond, List, ℕ, ◌^◌, ◌<◌, leb, length, get_or}
use Rattle.loops.specs.Loops.{tab}

-- the numbers up to w's number n, over the words b
abbrev pub kept : List ℕ → ℕ → List ℕ → List ℕ
kept w n b = tab 641 (λ i. cond (leb i n) (get_or w i 0) (get_or b i 0))

-- among 641 words a number of 32 bits stands at i
pub record NumberAt (b : List ℕ) (i : ℕ) : Type 0 where
  pub size : length b ≡ 641
  pub below : i < 641
  pub small : get_or b i 0 < 2 ^ 32
