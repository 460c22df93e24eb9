-- Pack in code: the table after each step.
use Rattle.std.specs.Prelude.{◌≡◌, false, List, ℕ, ◌<◌}
use Rattle.words.specs.declared.slot_word.SlotFields.{SlotFields}
use Rattle.tables.specs.State.{none, some, Table}
use Rattle.tables.specs.Update.{upd1}
use Rattle.tables.specs.View.{view, entry_of}
use Rattle.tables.specs.Encode.{Canon, Is}
use Rattle.tables.specs.Write.{with_slot, put_slot, put_region}
use Rattle.tables.specs.Settle.{open_bit, open_at}
use Rattle.rules.specs.Pack.{usable, Packing, rename, pack_slot, packing_of}

-- ── one move ──
-- region r of p names slot j where it named slot i
abbrev pub rename_at : Table → ℕ → ℕ → ℕ → ℕ → Table
rename_at t p i j r = put_region t p r (rename i j (t.region p r))

-- .. every region of p
abbrev pub renamed : Table → ℕ → ℕ → ℕ → Table
renamed t p i j = record { k = t.k; opened = t.opened; region = upd1 t.region p (λ r. rename i j (t.region p r)) }

-- slot j of p holds the entry f, slot i none, and the regions follow
abbrev pub moved_to : Table → ℕ → ℕ → ℕ → SlotFields → Table
moved_to t p i j f = renamed (put_slot (put_slot t p j (some (entry_of f)) f.opened) p i none false) p i j

-- ── one turn ──
-- the table with these slots and regions of p; its open bits by S9
abbrev pub pack_table : Table → ℕ → Packing → Table
pack_table t p s = record {
  k = with_slot t.k (upd1 t.k.slot p s.slot);
  opened = upd1 t.opened p (λ i. open_bit t.k.area (s.slot i));
  region = upd1 t.region p s.region;
}

-- what is asked: canonical words, p and slot i of it, few moves so far, and the open bits of p
pub record CanPack (l : List ℕ) (p i moved : ℕ) : Type 0 where
  pub canon : Canon l
  pub in_p : p < 16
  pub in_i : i < 32
  pub few : moved < 32
  pub bits : (m : ℕ) → (view l).opened p m ≡ open_at (view l).k p m

-- after the turn of slot i: every word, and how many have moved
pub record Turned (t : Table) (p i moved : ℕ) (after : List ℕ) (r : ℕ) : Type 0 where
  pub is : Is after (pack_table t p (pack_slot (usable t.k p) i (packing_of t p moved)))
  pub number : r ≡ (pack_slot (usable t.k p) i (packing_of t p moved)).moved
