-- Take in code: what is asked of the entry read, and the table after it.
use Rattle.std.specs.Prelude.{◌≡◌, true, false, List, ℕ, ◌<◌}
use Rattle.words.specs.declared.slot_word.SlotFields.{SlotFields}
use Rattle.tables.specs.State.{none, some, Table, given_to}
use Rattle.tables.specs.View.{view, entry_of}
use Rattle.tables.specs.Encode.{Canon}
use Rattle.tables.specs.Write.{put_slot}
use Rattle.tables.specs.Seen.{Seen}
use Rattle.sound.specs.Whole.{Right}

-- ── slot i of the child that e is given to, whose entry f was read ──
-- slot s of c is given to nobody, and slot i of the child that had it is free
abbrev pub taken_back : Table → ℕ → ℕ → ℕ → SlotFields → Table
taken_back t c s i f = put_slot (put_slot t c s (some (given_to (entry_of f) 0)) f.opened) f.given.0 i none false

-- the entry f in slot s of c, the caller, is given
pub record CanTake (l : List ℕ) (c s : ℕ) (f : SlotFields) : Type 0 where
  pub canon : Canon l
  pub now : (view l).k.current ≡ c
  pub caller : c < 16
  pub in_i : s < 32
  pub seen : Seen l c s f
  pub present : f.present ≡ true
  pub is_given : f.given.0 ≡ 0 → ⊥
  pub right : Right (view l)
