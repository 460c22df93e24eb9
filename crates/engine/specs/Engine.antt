-- The line engine: a ledger of masks, one a line. Mask l - base is that of line l, its bit p says whether partition p holds the line. What each operation makes
-- of the masks, and when it is refused.
use Rattle.std.specs.Prelude.{◌≡◌, Bool, true, cond, ◌&&◌, List, ◌↔◌, ℕ, ◌-◌, ◌%◌, ◌^◌, ◌≤◌, ◌<◌, leb, ltb, eqb, length, get_or}
use Rattle.std.specs.Int.Bits.{bit_and, bit_or, bit_xor}
use Rattle.loops.specs.Loops.{tab, names}

-- ── the masks after an operation ──
-- masks a to b - 1, each by h; the others stay
unfoldable pub between : ℕ → ℕ → (ℕ → ℕ) → List ℕ → List ℕ
between a b h ms = tab (length ms) (λ k. cond (leb a k && ltb k b) (h (get_or ms k 0)) (get_or ms k 0))

-- those of w join
abbrev pub joined : ℕ → ℕ → ℕ
joined w m = bit_or m w

-- those of w go
abbrev pub mask_struck : ℕ → ℕ → ℕ
mask_struck w m = bit_xor m (bit_and m w)

-- start: the root alone holds every line of base to end
abbrev pub start_masks : List ℕ → ℕ → ℕ → List ℕ
start_masks ms base end = between 0 (end - base) (λ m. 1) ms

-- give: the child holds the lines too
abbrev pub give_masks : List ℕ → ℕ → ℕ → ℕ → ℕ → List ℕ
give_masks ms base child from to = between (from - base) (to - base) (joined (2 ^ child)) ms

-- take: the child holds the lines no more
abbrev pub take_masks : List ℕ → ℕ → ℕ → ℕ → ℕ → List ℕ
take_masks ms base child from to = between (from - base) (to - base) (mask_struck (2 ^ child)) ms

-- strike: the members hold no line
abbrev pub strike_masks : List ℕ → ℕ → ℕ → ℕ → List ℕ
strike_masks ms base end members = between 0 (end - base) (mask_struck members) ms

-- ── when it is refused ──
-- the memory that the engine takes: base is below end, the lines are at most 2,048, and the n masks no fewer than the lines
pub record Memory (n base end : ℕ) : Type 0 where
  pub some : base < end
  pub few : end - base ≤ 2048
  pub room : end - base ≤ n

-- give and take: the child is 1 to 15, and the lines are a block of that memory
pub record Block (n base end child from to : ℕ) : Type 0 where
  pub memory : Memory n base end
  pub child_low : 1 ≤ child
  pub child_high : child ≤ 15
  pub low : base ≤ from
  pub long : from < to
  pub high : to ≤ end

-- strike: each member is a child, 1 to 15
pub record Members (n base end members : ℕ) : Type 0 where
  pub memory : Memory n base end
  pub each : (p : ℕ) → names members p ≡ true → (1 ≤ p) × (p ≤ 15)

-- .. as tests
unfoldable pub memory_right : ℕ → ℕ → ℕ → Bool
memory_right n base end = ltb base end && (leb (end - base) 2048 && leb (end - base) n)

unfoldable pub child_right : ℕ → Bool
child_right c = leb 1 c && leb c 15

-- bit 0 is not set, and no bit from 16 on
unfoldable pub members_right : ℕ → Bool
members_right w = eqb (w % 2) 0 && ltb w (2 ^ 16)

unfoldable pub block_right : ℕ → ℕ → ℕ → ℕ → Bool
block_right base end from to = leb base from && (ltb from to && leb to end)

unfoldable pub lines_right : ℕ → ℕ → ℕ → ℕ → ℕ → ℕ → Bool
lines_right n base end child from to = memory_right n base end && (child_right child && block_right base end from to)

unfoldable pub strike_right : ℕ → ℕ → ℕ → ℕ → Bool
strike_right n base end members = memory_right n base end && members_right members

-- 0: done; the one refusal is 21
unfoldable pub engine_refusal : Bool → ℕ
engine_refusal right = cond right 0 21

-- What an operation promises, on the masks `before`: its answer, and the masks `after`. Refused, it writes nothing.
pub record Engine (right : Bool) (new before : List ℕ) (r : ℕ) (after : List ℕ) : Type 0 where
  pub answer : r ≡ engine_refusal right
  pub masks : after ≡ cond right new before

-- ── each operation ──
abbrev pub StartLent : ℕ → ℕ → List ℕ → ℕ → List ℕ → Type 0
StartLent base end before r after = Engine (memory_right (length before) base end) (start_masks before base end) before r after

abbrev pub GiveLent : ℕ → ℕ → ℕ → ℕ → ℕ → List ℕ → ℕ → List ℕ → Type 0
GiveLent base end child from to before r after = Engine (lines_right (length before) base end child from to) (give_masks before base child from to) before r after

abbrev pub TakeLent : ℕ → ℕ → ℕ → ℕ → ℕ → List ℕ → ℕ → List ℕ → Type 0
TakeLent base end child from to before r after = Engine (lines_right (length before) base end child from to) (take_masks before base child from to) before r after

abbrev pub StrikeLent : ℕ → ℕ → ℕ → List ℕ → ℕ → List ℕ → Type 0
StrikeLent base end members before r after = Engine (strike_right (length before) base end members) (strike_masks before base end members) before r after

-- ── exactly when ──
-- 21 exactly where C is not so, 0 exactly where it is
pub record Exactly (C : Type 0) (r : ℕ) : Type 0 where
  pub refused : (r ≡ 21) ↔ (C → ⊥)
  pub done : (r ≡ 0) ↔ C

-- what keeps the promise of an operation gives 21 by those conditions and no other
pub record Gives21 : Type 0 where
  pub start : (base end : ℕ) {before : List ℕ} {r : ℕ} {after : List ℕ} → StartLent base end before r after → Exactly (Memory (length before) base end) r
  pub give : (base end child from to : ℕ) {before : List ℕ} {r : ℕ} {after : List ℕ} → GiveLent base end child from to before r after → Exactly (Block (length before) base end child from to) r
  pub take : (base end child from to : ℕ) {before : List ℕ} {r : ℕ} {after : List ℕ} → TakeLent base end child from to before r after → Exactly (Block (length before) base end child from to) r
  pub strike : (base end members : ℕ) {before : List ℕ} {r : ℕ} {after : List ℕ} → StrikeLent base end members before r after → Exactly (Members (length before) base end members) r
