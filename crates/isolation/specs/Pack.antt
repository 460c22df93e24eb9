-- Service 15, pack: the entries of p move to the lowest usable slots in unchanged slot order, and its regions follow them.
use Rattle.std.specs.Prelude.{◌≡◌, List, [], ◌∷◌, ◌++◌, ℕ, zero, suc, ◌≤◌, ◌<◌}
use Rattle.tables.specs.State.{Opt, none, some, Entry, Table}
use Rattle.sound.specs.Holders.{holders_of, looks_of}
use Rattle.isolation.specs.Ladders.{FreeSlot}

-- ── what pack leaves ──
-- the entry of a slot, if it has one
abbrev pub entry_only : Opt Entry → List Entry
entry_only none = []
entry_only (some e) = e ∷ []

-- the entries of the first n slots, in slot order
unfoldable pub entries_of : (ℕ → Opt Entry) → ℕ → List Entry
entries_of slot zero = []
entries_of slot (suc n) = entries_of slot n ++ entry_only (slot n)

-- REQUEST 111, of a sound table t: what stands in the table after a pack of p
pub record Packed (t after : Table) (p : ℕ) : Type 0 where
  -- "in unchanged slot order"
  pub order : entries_of (after.k.slot p) 32 ≡ entries_of (t.k.slot p) 32
  -- "to the lowest usable slots": no slot below an entry is free
  pub lowest : (i j : ℕ) (e : Entry) → after.k.slot p i ≡ some e → j < i → FreeSlot after.k p j → ⊥
  -- "regions follow their entries": each that named an entry names it, and the others are not loaded
  pub follow : (r i : ℕ) (e : Entry) → t.region p r ≡ some i → t.k.slot p i ≡ some e → (j : ℕ) × (after.region p r ≡ some j) × (after.k.slot p j ≡ some e)
  pub unloaded : (r : ℕ) → t.region p r ≡ none → after.region p r ≡ none
  -- everyone else has its slots and regions as they were
  pub slots : (q i : ℕ) → (q ≡ p → ⊥) → after.k.slot q i ≡ t.k.slot q i
  pub regions : (q r : ℕ) → (q ≡ p → ⊥) → after.region q r ≡ t.region q r
  -- "lists of holders stay; #106's sum may fall"
  pub holders : (l : ℕ) → holders_of after.k l ≡ holders_of t.k l
  pub looks : (l : ℕ) → looks_of after.k l ≤ looks_of t.k l
