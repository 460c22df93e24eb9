-- Give in code: what is asked of the entry read, and the table after it.
use Rattle.std.specs.Prelude.{◌≡◌, Bool, true, List, ℕ, ◌<◌}
use Rattle.words.specs.declared.Rights.{Rights}
use Rattle.words.specs.declared.slot_word.SlotFields.{SlotFields}
use Rattle.tables.specs.State.{some, Table, given_to, range_of}
use Rattle.tables.specs.View.{view, entry_of}
use Rattle.tables.specs.Encode.{Canon}
use Rattle.tables.specs.Write.{put_slot}
use Rattle.tables.specs.Search.{child}
use Rattle.sound.specs.Whole.{Right}
use Rattle.blocks.specs.Pick.{Free}

-- slot s of c is given to p, and slot n of p has its range with rights r, whole if w is set
abbrev pub handed_to : Table → ℕ → ℕ → ℕ → ℕ → Rights → Bool → SlotFields → Table
handed_to t c s p n r w f = put_slot (put_slot t c s (some (given_to (entry_of f) p)) f.opened) p n (some (range_of (entry_of f) r w)) f.opened

-- p is a child of c, the caller, whose entry f in slot s is free
pub record CanGive (l : List ℕ) (c p s : ℕ) (f : SlotFields) : Type 0 where
  pub canon : Canon l
  pub now : (view l).k.current ≡ c
  pub caller : c < 16
  pub in_p : p < 16
  pub in_i : s < 32
  pub is_child : child (view l).k c p ≡ true
  pub entry : Free l s f
  pub right : Right (view l)
