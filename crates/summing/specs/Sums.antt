-- What the walk over the slots of a partition has gathered, from the last slot down, and the walk over the headers; and the two words that come of it.
use Rattle.std.specs.Prelude.{◌≡◌, cond, List, ℕ, ◌+◌, ◌*◌, ◌≤◌, ◌<◌, length, get_or, Result, Ok, Err}
use Rattle.loops.specs.Loops.{sum, map_of}
use Rattle.loops.specs.Laws.Map.{Mapping}
use Rattle.words.specs.Kind.{word_of}
use Rattle.words.specs.Words.{masks}
use Rattle.tables.specs.State.{some, Entry, K, Table}
use Rattle.tables.specs.Search.{present, child}
use Rattle.sound.specs.Whole.{Right}
use Rattle.sheetrules.specs.Sheet.{occupied, structured, held_at, opened_at, lines_word}
use Rattle.summing.specs.declared.sums.Sums.{Sums}
use Rattle.summing.specs.declared.pairs.Pair.{Pair}
use Rattle.words.specs.declared.Refusal.{Refusal}

-- the word that was written
abbrev pub word_in : Result ℕ Refusal → ℕ
word_in (Ok w) = w
word_in (Err why) = 0

-- At i, x is the sum of f from i up to 32, and at most a line less than 2^27 each was added.
pub record Ending (f : ℕ → ℕ) (i x : ℕ) : Type 0 where
  pub within : i ≤ 32
  pub few : x + i * 0x7ff_ffff ≤ 32 * 0x7ff_ffff
  pub made : x + sum i f ≡ sum 32 f

-- The entry in slot i of p, if there is one, ends behind its start.
pub record Ranged (t : Table) (p i : ℕ) : Type 0 where
  pub ends : (e : Entry) → t.k.slot p i ≡ some e → e.start < e.stop

-- At i, the slots of p from i on are gathered.
pub record Adding (t : Table) (p i : ℕ) (x : Sums) : Type 0 where
  pub slots : Mapping (occupied t.k p) 0 32 i x.slots
  pub held : Ending (held_at t.k p) i x.held
  pub opened : Ending (opened_at t p) i x.opened

-- the children of p as a mask
abbrev pub children_of : K → ℕ → ℕ
children_of k p = map_of 16 (child k p)

-- the mask of p among those of all
abbrev pub mask_of : List ℕ → ℕ → ℕ
mask_of m p = get_or m p 0

-- The masks m have the children below c, each of its parent.
pub record ChildrenTo (k : K) (c : ℕ) (m : List ℕ) : Type 0 where
  pub size : length m ≡ 16
  pub at : (q : ℕ) → q < 16 → mask_of m q ≡ map_of c (child k q)

-- the first word of p with c for the mask of its children
unfoldable pub masks_with : ℕ → Table → ℕ → ℕ
masks_with c t p = cond (present t.k p) (word_of masks (record { children = c; slots = map_of 32 (occupied t.k p); structures = map_of 4 (structured t.k p) })) 0

-- the two words of p with the children c: before the table is known to be right, its lines are not known to fit their bits
pub record WordsIfRight (t : Table) (p c : ℕ) (x : Pair) : Type 0 where
  pub masks : Right t → x.masks ≡ masks_with c t p
  pub lines : Right t → x.lines ≡ lines_word t p
