-- What it is to have a line, to hold one, to be clear of all areas.
use Rattle.std.specs.Prelude.{◌≡◌, ℕ, ◌≤◌, ◌<◌}
use Rattle.tables.specs.State.{Opt, some, Entry, Area}

-- an entry has line l
pub record In (l : ℕ) (e : Entry) : Type 0 where
  pub from : e.start ≤ l
  pub to : l < e.stop

-- an area has line l
pub record InA (l : ℕ) (a : Area) : Type 0 where
  pub from : a.lo ≤ l
  pub to : l < a.hi

-- p holds line l: one of its entries has it
pub record Holds (slot : ℕ → ℕ → Opt Entry) (p l : ℕ) : Type 0 where
  pub i : ℕ
  pub e : Entry
  pub at : slot p i ≡ some e
  pub holds : In l e

-- an entry shares no line with an area
abbrev pub Clear : (ℕ → ℕ → Opt Area) → Entry → Type 0
Clear area e = (p j : ℕ) (a : Area) (l : ℕ) → area p j ≡ some a → InA l a → In l e → ⊥
