-- The way from the root down to the deepest holder of a line, kept for the lines after it.
use Rattle.std.specs.Prelude.{◌≡◌, List, ℕ, ◌-◌, ◌^◌, ◌≤◌, ◌<◌, length, get_or, Result, Ok, Err}
use Rattle.words.specs.Kinds.{line_in, holder_in}
use Rattle.tables.specs.State.{K}
use Rattle.runs.specs.declared.pieces.PieceEnd.{PieceEnd}
use Rattle.runs.specs.Runs.{deepest_at}
use Rattle.runs.specs.Pieces.{piece_end, Descent}
use Rattle.runs.specs.Places.{Passed}
use Rattle.words.specs.declared.Refusal.{Refusal}

-- a mark's word is kept in 32 bits; a refusal keeps nothing
abbrev pub Short : Result ℕ Refusal → Type 0
Short (Ok m) = m < 2 ^ 32
Short (Err why) = Unit {0}

abbrev pub word_written : Result ℕ Refusal → ℕ
word_written (Ok m) = m
word_written (Err why) = 0

-- a step of the way is a mark: the lowest end above it, and the partition
abbrev pub low_at : List ℕ → ℕ → ℕ
low_at w j = line_in (get_or w j 0)

abbrev pub who_at : List ℕ → ℕ → ℕ
who_at w j = holder_in (get_or w j 0)

-- ── up ──
pub record Climbs (w : List ℕ) (d l : ℕ) : Type 0 where
  pub size : length w ≡ 16
  pub deep : d ≤ 15
  pub root : l < low_at w 0

-- no step below r is above the line
pub record Climbing (w : List ℕ) (d l r : ℕ) : Type 0 where
  pub within : r ≤ d
  pub below : (j : ℕ) → r < j → j ≤ d → low_at w j ≤ l

pub record Climbed (w : List ℕ) (d l r : ℕ) : Type 0 where
  pub climbing : Climbing w d l r
  pub low : l < low_at w r

-- ── down ──
-- d steps of the way to the line l: at each the descent is right for every line from l on that is below the lowest end above the step
pub record Way (k : K) (l d : ℕ) (w : List ℕ) : Type 0 where
  pub size : length w ≡ 16
  pub deep : d ≤ 15
  pub root : low_at w 0 ≡ k.stop
  pub steps : (j m : ℕ) → j ≤ d → l ≤ m → m < low_at w j → Descent k m (who_at w j) (low_at w j) (15 - j)

-- before a piece: the line, the places, and the way to the piece before
pub record Standing (k : K) (o : List ℕ) (l d : ℕ) (s w : List ℕ) : Type 0 where
  pub inside : l < k.stop
  pub passed : Passed k o l s
  pub way : Way k l d w

-- after it
pub record Pieced (k : K) (o : List ℕ) (l : ℕ) (r : PieceEnd) (s w : List ℕ) : Type 0 where
  pub end : r.end.0 ≡ piece_end k l
  pub deepest : r.deepest.0 ≡ deepest_at k l
  pub small : r.deepest.0 < 16
  pub passed : Passed k o l s
  pub way : Way k l r.depth w
