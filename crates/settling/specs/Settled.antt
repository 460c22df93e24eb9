-- What is left to settle in a table that was settled before an area came, or areas went; and how it gets there, slot by slot.
use Rattle.std.specs.Prelude.{◌≡◌, Bool, true, false, ◌&&◌, List, ℕ, ◌+◌, ◌*◌, ◌/◌, ◌≤◌, ◌<◌}
use Rattle.loops.specs.Loops.{names}
use Rattle.tables.specs.State.{Opt, none, some, Entry, Area, K, Table}
use Rattle.tables.specs.Update.{upd, upd1}
use Rattle.tables.specs.View.{view}
use Rattle.tables.specs.Encode.{Canon, Is}
use Rattle.tables.specs.Settle.{open_at, keep, settled}
use Rattle.tables.specs.Kept.{keep_regions}
use Rattle.settling.specs.Areas.{off}

-- ── what is left to settle ──
-- each entry stands in a structure that is there
pub record Housed (k : K) : Type 0 where
  pub at : (p i : ℕ) (e : Entry) → k.slot p i ≡ some e → (a : Area) × (k.area p (1 + i / 8) ≡ some a)

-- each region names an open slot
pub record RegionsNamed (t : Table) : Type 0 where
  pub at : (p r i : ℕ) → t.region p r ≡ some i → t.opened p i ≡ true

-- an entry is there, and shares no line with a to b
unfoldable pub off_entry : ℕ → ℕ → Opt Entry → Bool
off_entry a b none = false
off_entry a b (some e) = off a b e.start e.stop

-- The area a to b has come: by S9 an entry is open exactly if it was and shares no line with a to b.
pub record Came (a b : ℕ) (t : Table) : Type 0 where
  pub housed : Housed t.k
  pub named : RegionsNamed t
  pub bits : (p i : ℕ) → open_at t.k p i ≡ t.opened p i && off_entry a b (t.k.slot p i)

-- Areas have gone: by S9 an entry that was open is open.
pub record Gone (t : Table) : Type 0 where
  pub housed : Housed t.k
  pub named : RegionsNamed t
  pub stays : (p i : ℕ) → t.opened p i ≡ true → open_at t.k p i ≡ true

-- ── the way there ──
-- n slots of p: those up to the end of its last structure
pub record UsedEnd (k : K) (p n : ℕ) : Type 0 where
  pub j : ℕ
  pub is : n ≡ 8 * j
  pub within : j ≤ 4
  pub gone : (i : ℕ) → j ≤ i → i < 4 → k.area p (1 + i) ≡ none
  pub last : 0 < j → (a : Area) × (k.area p j ≡ some a)

-- slot i of p has the open bit of S9, and no region of p is left on a slot that is not open
abbrev pub settle_slot : Table → ℕ → ℕ → Table
settle_slot t p i = keep_regions (record { k = t.k; opened = upd t.opened p i (open_at t.k p i); region = t.region }) p

-- .. every slot of p
abbrev pub settle_record : Table → ℕ → Table
settle_record t p = record {
  k = t.k;
  opened = upd1 t.opened p (open_at t.k p);
  region = upd1 t.region p (λ r. keep (open_at t.k p) (t.region p r));
}

-- the open bit of slot i of p is that of S9
abbrev pub Fixed : List ℕ → ℕ → ℕ → Type 0
Fixed l p i = open_at (view l).k p i ≡ (view l).opened p i

-- The open bits of whoever is not named by the mask are those of S9; the mask has no bit beside the sixteen.
pub record FixedBut (mask : ℕ) (l : List ℕ) : Type 0 where
  pub small : mask < 0x1_0000
  pub at : (p i : ℕ) → p < 16 → names mask p ≡ false → Fixed l p i

-- From l to m: what P says of the table holds on, it is settled to the same as before, and no bit that was fixed is lost.
pub record Nearer (P : Table → Type 0) (l m : List ℕ) : Type 0 where
  pub canon : Canon m
  pub still : P (view m)
  pub same : settled (view m) ≡ settled (view l)
  pub keeps : (p i : ℕ) → Fixed l p i → Fixed m p i

pub record SlotDone (P : Table → Type 0) (p i : ℕ) (l m : List ℕ) : Type 0 where
  pub is : Is m (settle_slot (view l) p i)
  pub near : Nearer P l m
  pub fixed : Fixed m p i

pub record RecordDone (P : Table → Type 0) (p : ℕ) (l m : List ℕ) : Type 0 where
  pub is : Is m (settle_record (view l) p)
  pub near : Nearer P l m
  pub fixed : (i : ℕ) → Fixed m p i
