-- Who stands on the way up from a partition, and the one number that tells it: to the base 16, the topmost as its lowest digit.
-- Nobody below the topmost is 0, so the number tells how many they are, too.
use Rattle.std.specs.Prelude.{◌≡◌, Bool, cond, List, [], ◌∷◌, ◌++◌, length, drop, eqb, ℕ, zero, suc, ◌+◌, ◌-◌, ◌*◌, ◌/◌, ◌%◌, ◌^◌, ◌≤◌, ◌<◌}
use Rattle.loops.specs.Loops.{climb, reaches}

-- who stands on the way from p up to the root, root first; where the steps end before it, those who had a step left
abbrev pub way_up : (ℕ → ℕ) → ℕ → ℕ → List ℕ
way_up up n p = climb up (λ k. 0 ∷ []) [] (λ q r. r ++ (q ∷ [])) p n

-- the number of a list in front of w: its first is the lowest digit
unfoldable pub digits : List ℕ → ℕ → ℕ
digits [] w = w
digits (x ∷ xs) w = digits xs w * 16 + x

-- the digits of w from the lowest to the last that is not 0, but the lowest in any case, and at most n
unfoldable pub digits_of : ℕ → ℕ → List ℕ
digits_of zero w = []
digits_of (suc n) w = w % 16 ∷ cond (eqb (w / 16) 0) [] (digits_of n (w / 16))

-- who stands on the way that a word tells
abbrev pub way_in : ℕ → List ℕ
way_in w = digits_of 16 w

-- the first bytes are hs, the rest stay
abbrev pub names_over : List ℕ → List ℕ → List ℕ
names_over hs bytes = hs ++ drop (length hs) bytes

-- ── what the climb asks and promises ──
-- w has room for those on n more steps, and for the root
pub record HasRoom (n w : ℕ) : Type 0 where
  pub few : n ≤ 15
  pub small : w < 16 ^ (15 - n)

-- from p, with n steps: whether it got to the root, and who stood on the way, in front of w
pub record WentUp (up : ℕ → ℕ) (p n w : ℕ) (r : Bool) (v : ℕ) : Type 0 where
  pub rooted : r ≡ reaches up n p
  pub names : v ≡ digits (way_up up n p) w

-- ── the number, written out ──
-- what writing out the way that w tells promises: how many names there are, and every byte
pub record WayWritten (w : ℕ) (before : List ℕ) (r : ℕ) (after : List ℕ) : Type 0 where
  pub number : r ≡ length (way_in w)
  pub bytes : after ≡ names_over (way_in w) before
