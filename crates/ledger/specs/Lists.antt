-- What it is to list: exactly those that P holds of, root first, each the parent of the next, each once. There is one such list, and its length is their number.
use Rattle.std.specs.Prelude.{◌≡◌, List, ◌↔◌, ℕ, suc, ◌≤◌, ◌<◌, length, get_or}

-- the i-th name of a list
abbrev pub nth_name : List ℕ → ℕ → ℕ
nth_name hs i = get_or hs i 0

-- p stands in the list
abbrev pub Stands : ℕ → List ℕ → Type 0
Stands p hs = (i : ℕ) × (i < length hs) × (nth_name hs i ≡ p)

-- no name twice
abbrev pub Once : List ℕ → Type 0
Once hs = (i j : ℕ) → i < length hs → j < length hs → nth_name hs i ≡ nth_name hs j → i ≡ j

pub record Lists (P : ℕ → Type 0) (up : ℕ → ℕ) (hs : List ℕ) : Type 0 where
  pub exactly : (p : ℕ) → Stands p hs ↔ P p
  pub root : (0 < length hs) × (nth_name hs 0 ≡ 0)
  pub next : (i : ℕ) → suc i < length hs → up (nth_name hs (suc i)) ≡ nth_name hs i
  pub once : Once hs
  pub few : length hs ≤ 16
