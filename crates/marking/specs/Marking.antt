-- Each area marks the not-given entry that it equals: a mask of slots for each partition.
use Rattle.std.specs.Prelude.{◌≡◌, Bool, true, false, List, Option, Some, None, ℕ, ◌+◌, ◌*◌, ◌/◌, ◌%◌, ◌^◌, ◌<◌, length, get_or, set}
use Rattle.std.specs.Int.Bits.{bit_or}
use Rattle.tables.specs.State.{some, Area, K}
use Rattle.tables.specs.View.{view}
use Rattle.shape.specs.AtOnce.{Shaped}
use Rattle.loops.specs.Loops.{seek, names}
use Rattle.sound.specs.Sound.{Rooted, Equals, S8}
use Rattle.sound.specs.Laws.Local.{EqualAt}
use Rattle.words.specs.declared.Slot.{Slot}
use Rattle.marking.specs.declared.Mark.{Mark}
use Rattle.marking.specs.declared.Mark.TheVariants.{Nobody, Now, Before}
use Rattle.marking.specs.Backing.{backs}

-- slot x % 32 of partition x / 32 is marked
unfoldable pub slot_marked : List ℕ → ℕ → Bool
slot_marked m x = names (get_or m (x / 32) 0) (x % 32)

-- area j of p, its number 5 * p + j below n, is there, and none of the root's two
pub record There (k : K) (n p j : ℕ) (a : Area) : Type 0 where
  pub few : j < 5
  pub below : 5 * p + j < n
  pub area : k.area p j ≡ some a
  pub other : Rooted p j → ⊥

-- the areas of numbers below n have marked, each another slot; at tells which
pub record MarkedTo (k : K) (n : ℕ) (m : List ℕ) : Type 0 where
  pub size : length m ≡ 16
  pub at : ℕ → ℕ
  pub equal : (p j : ℕ) (a : Area) → There k n p j a → EqualAt k p j a (at (5 * p + j))
  pub hit : (p j : ℕ) (a : Area) → There k n p j a → slot_marked m (at (5 * p + j)) ≡ true
  pub back : (x : ℕ) → slot_marked m x ≡ true → (p j : ℕ) × (a : Area) × There k n p j a × (at (5 * p + j) ≡ x)
  pub once : (p j q i : ℕ) (a b : Area) → There k n p j a → There k n q i b → at (5 * p + j) ≡ at (5 * q + i) → 5 * p + j ≡ 5 * q + i

-- slot i, found
abbrev pub found_slot : ℕ → Option Slot
found_slot i = Some (record { 0 = i })

-- the slot of q with a not-given entry that equals the area
abbrev pub equal_slot : K → ℕ → Area → Option Slot
equal_slot k q a = seek (λ i. backs a (k.slot q i)) found_slot None 32

-- one area that marks a slot of q, if one is equal
pub data Marks (k : K) (q : ℕ) (a : Area) (m : List ℕ) (r : Mark) (m' : List ℕ) : Type 0 where
  nobody : r ≡ Nobody → m' ≡ m → (Equals k q a → ⊥) → Marks k q a m r m'
  marked : (i : ℕ) → i < 32 → backs a (k.slot q i) ≡ true → r ≡ Now → slot_marked m (32 * q + i) ≡ false → m' ≡ set m q (bit_or (get_or m q 0) (2 ^ i)) → Marks k q a m r m'
  before : (i : ℕ) → i < 32 → backs a (k.slot q i) ≡ true → r ≡ Before → slot_marked m (32 * q + i) ≡ true → m' ≡ m → Marks k q a m r m'

-- whether it is marked, and was not before
abbrev pub is_now : Mark → Bool
is_now Nobody = false
is_now Now = true
is_now Before = false

-- one area that marks a slot of one, or, if no entry of it is equal, of other: whether it is marked, and was not before
pub data MarksEither (k : K) (one other : ℕ) (a : Area) (m : List ℕ) (r : Bool) (m' : List ℕ) : Type 0 where
  in_one : (n : Mark) → r ≡ is_now n → (n ≡ Nobody → ⊥) → Marks k one a m n m' → MarksEither k one other a m r m'
  in_other : (n : Mark) → r ≡ is_now n → (Equals k one a → ⊥) → Marks k other a m n m' → MarksEither k one other a m r m'

-- the areas before area j of p have marked
pub record CanMark (l : List ℕ) (p j : ℕ) (m : List ℕ) : Type 0 where
  pub in_p : p < 16
  pub shaped : Shaped l
  pub marked : MarkedTo (view l).k (5 * p + j) m

-- S8 at all partitions
abbrev pub EachS8 : K → Type 0
EachS8 k = (p : ℕ) → p < 16 → S8 k p

-- what marking up to number n says: all have marked, or S8 fails
pub record MarkSays (k : K) (n : ℕ) (r : Bool) (m : List ℕ) : Type 0 where
  pub on : r ≡ true → MarkedTo k n m
  pub off : r ≡ false → EachS8 k → ⊥
