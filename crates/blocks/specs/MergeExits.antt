-- Merge in code: when two entries may be joined, what is asked of those read, the table after it.
use Rattle.std.specs.Prelude.{◌≡◌, Bool, true, ◌||◌, List, ℕ, ◌<◌, eqb}
use Rattle.words.specs.declared.slot_word.SlotFields.{SlotFields}
use Rattle.tables.specs.State.{some, Entry, K, Table, ending_at}
use Rattle.tables.specs.View.{view, entry_of}
use Rattle.tables.specs.Encode.{Canon}
use Rattle.tables.specs.Write.{put_slot}
use Rattle.tables.specs.Seen.{Seen}
use Rattle.sound.specs.Clauses.{one_grant}
use Rattle.sound.specs.Whole.{Right}
use Rattle.blocks.specs.Unloading.{unloaded_at}

-- check 12
unfoldable pub may_join : K → ℕ → Entry → Entry → Bool
may_join k c e f = eqb c 0 || one_grant k c e f

-- slot s of c, unloaded, ends where f ended ..
abbrev pub longer_at : Table → ℕ → ℕ → SlotFields → SlotFields → Table
longer_at t c s e f = put_slot (unloaded_at t c s) c s (some (ending_at (entry_of e) f.end.0)) e.opened

-- .. and slot u of c is unloaded and free
abbrev pub joined_at : Table → ℕ → ℕ → ℕ → SlotFields → SlotFields → Table
joined_at t c s u e f = unloaded_at (longer_at t c s e f) c u

-- e and f are the entries in slots s and u of the caller c
pub record CanMerge (l : List ℕ) (c s u : ℕ) (e f : SlotFields) : Type 0 where
  pub canon : Canon l
  pub now : (view l).k.current ≡ c
  pub caller : c < 16
  pub in_i : s < 32
  pub in_u : u < 32
  pub first : Seen l c s e
  pub first_there : e.present ≡ true
  pub second : Seen l c u f
  pub second_there : f.present ≡ true
  pub right : Right (view l)
