-- Cut in code: what is asked of the entry read, and the table after it.
use Rattle.std.specs.Prelude.{List, ℕ, ◌^◌, ◌<◌}
use Rattle.words.specs.declared.slot_word.SlotFields.{SlotFields}
use Rattle.tables.specs.State.{some, Table, ending_at, starting_at}
use Rattle.tables.specs.View.{view, entry_of}
use Rattle.tables.specs.Encode.{Canon}
use Rattle.tables.specs.Write.{put_slot}
use Rattle.sound.specs.Whole.{Right}
use Rattle.blocks.specs.Pick.{Free}
use Rattle.blocks.specs.Unloading.{unloaded_at}

-- slot s of c, unloaded, ends at k, and slot n of c goes on from there
abbrev pub split_at : Table → ℕ → ℕ → ℕ → ℕ → SlotFields → Table
split_at t c s n k f = put_slot (put_slot (unloaded_at t c s) c s (some (ending_at (entry_of f) k)) f.opened) c n (some (starting_at (entry_of f) k)) f.opened

pub record CanCut (l : List ℕ) (s k : ℕ) (f : SlotFields) : Type 0 where
  pub canon : Canon l
  pub in_i : s < 32
  pub line : k < 2 ^ 27
  pub entry : Free l s f
  pub right : Right (view l)
