-- DEMAND 3: a ledger kept by hand from an accepted boot always equals the listing of holders, for each line, after any list of calls.
use Rattle.std.specs.Prelude.{◌≡◌, true, List, ℕ, ◌≤◌, ◌<◌, length, Ok, Err}
use Rattle.loops.specs.Loops.{count}
use Rattle.shapes.specs.declared.Board.{Board}
use Rattle.tables.specs.View.{view}
use Rattle.tables.specs.WayUp.{names_over}
use Rattle.sound.specs.Holders.{holders_of, looks_of, HoldersListed}
use Rattle.ledger.specs.Ledger.{Ledger}
use Rattle.ledger.specs.Lists.{Lists}
use Rattle.tables.specs.Outcomes.{Outcome}
use Rattle.words.specs.declared.Refusal.TheVariants.{WrongLine}

-- What demand 3 says of a ledger g and the words t of a table of base to end. Listed is what holders promises.
pub record Demand3 (b : Board) (base end : ℕ) (g : Ledger) (t : List ℕ) : Type 0 where
  -- the partitions of the ledger for a line, and no other, are listed: root first, each in the ledger's tree the parent of the next, each once
  pub listing : (m : ℕ) → base ≤ m → m < end → Lists (λ p. g.stands p m ≡ true) g.parent (holders_of (view t).k m)
  -- holders is done with their number and the sum of their searches, and the first bytes become their names
  pub answer : {m : ℕ} {before after : List ℕ} {r : Outcome} → base ≤ m → m < end → 16 ≤ length before → HoldersListed b t m before r after
      → (r ≡ Ok (count 16 (λ p. g.stands p m), looks_of (view t).k m)) × (after ≡ names_over (holders_of (view t).k m) before)
  -- a line that is not in base to end has nobody in the ledger, and is refused
  pub nobody : (p m : ℕ) → g.stands p m ≡ true → (base ≤ m) × (m < end)
  pub outside : {m : ℕ} {before after : List ℕ} {r : Outcome} → ((base ≤ m) × (m < end) → ⊥) → HoldersListed b t m before r after → (r ≡ Err WrongLine) × (after ≡ before)
