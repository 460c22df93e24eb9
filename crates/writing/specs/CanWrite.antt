-- What a write asks: that the words are canonical, that its place is there, and that what it writes fits its word.
use Rattle.std.specs.Prelude.{◌≡◌, true, List, ℕ, ◌^◌, ◌<◌}
use Rattle.words.specs.declared.header_word.HeaderFields.{HeaderFields}
use Rattle.words.specs.declared.slot_word.SlotFields.{SlotFields}
use Rattle.words.specs.declared.structure_word.StructureFields.{StructureFields}
use Rattle.tables.specs.Encode.{Canon}

-- of p's slots (n is 32), structures (n is 4) or regions (n is 8), number i
pub record CanClear (n : ℕ) (l : List ℕ) (p i : ℕ) : Type 0 where
  pub canon : Canon l
  pub in_p : p < 16
  pub in_i : i < n

pub record CanEntry (l : List ℕ) (p i : ℕ) (f : SlotFields) : Type 0 where
  pub canon : Canon l
  pub in_p : p < 16
  pub in_i : i < 32
  pub present : f.present ≡ true
  pub given_small : f.given.0 < 16
  pub start_small : f.start.0 < 2 ^ 27
  pub end_small : f.end.0 < 2 ^ 27

pub record CanHeader (l : List ℕ) (p : ℕ) (f : HeaderFields) : Type 0 where
  pub canon : Canon l
  pub in_p : p < 16
  pub present : f.present ≡ true
  pub parent_small : f.parent.0 < 16
  pub start_small : f.start.0 < 2 ^ 27
  pub end_small : f.end.0 < 2 ^ 27

pub record CanStructure (l : List ℕ) (p j : ℕ) (f : StructureFields) : Type 0 where
  pub canon : Canon l
  pub in_p : p < 16
  pub in_j : j < 4
  pub present : f.present ≡ true
  pub start_small : f.start.0 < 2 ^ 27
  pub end_small : f.end.0 < 2 ^ 27

-- region r of p is to name slot i
pub record CanRegion (l : List ℕ) (p r i : ℕ) : Type 0 where
  pub canon : Canon l
  pub in_p : p < 16
  pub in_r : r < 8
  pub in_i : i < 32

pub record CanCurrent (l : List ℕ) (c : ℕ) : Type 0 where
  pub canon : Canon l
  pub in_c : c < 16

-- the whole record of p
pub record CanRecord (l : List ℕ) (p : ℕ) : Type 0 where
  pub canon : Canon l
  pub in_p : p < 16
