-- The ledger of who holds which line, as a reader keeps it by hand from an accepted boot: by the call words and the answers. A call names an entry by its slot, so the
-- reader is told the lines of that entry, start and end, as they were when the call came. Nothing else of a table is read.
use Rattle.std.specs.Prelude.{Bool, cond, not, ◌&&◌, ◌||◌, List, [], ◌∷◌, ℕ, ◌+◌, ◌-◌, leb, ltb, eqb, Ok, Err}
use Rattle.loops.specs.Loops.{all}
use Rattle.words.specs.Kind.{fields_in}
use Rattle.words.specs.Words.{call}
use Rattle.words.specs.declared.call_word.CallFields.{CallFields}
use Rattle.shapes.specs.declared.Board.{Board}
use Rattle.tables.specs.State.{Opt, none, some, Entry}
use Rattle.tables.specs.Update.{upd1}
use Rattle.tables.specs.View.{view}
use Rattle.tables.specs.Search.{lowest}
use Rattle.rules.specs.Rules.{records_zero, branch, call_on, words_after}
use Rattle.rules.specs.Ran.{outcome_of}
use Rattle.rules.specs.Calls.{caller_of}
use Rattle.tables.specs.Outcomes.{Outcome}

-- whether partition p stands in it for line l; and the tree, which tells whose child one is and who goes with a partition that is cleared out
pub record Ledger : Type 0 where
  pub stands : ℕ → ℕ → Bool
  pub parent : ℕ → ℕ

-- an accepted boot: the root holds all, base to end
unfoldable pub opening : ℕ → ℕ → Ledger
opening base end = record { stands = λ p l. eqb p 0 && (leb base l && ltb l end); parent = λ p. 0 }

-- lines from start to stop, stop excluded
pub record Lines : Type 0 where
  pub start : ℕ
  pub stop : ℕ

unfoldable pub among : ℕ → Lines → Bool
among l r = leb r.start l && ltb l r.stop

-- ── what an accepted call does to it ──
pub data Event : Type 0 where
  -- a child, and whose child it is from now on
  adopt : ℕ → ℕ → Event
  -- a child is entered for lines
  enter : ℕ → Lines → Event
  -- a child is struck for lines
  strike : ℕ → Lines → Event
  -- the members of a branch are struck for all lines, and out of the tree
  strike_all : (ℕ → Bool) → Event
  nothing : Event

unfoldable pub apply : Event → Ledger → Ledger
apply (adopt c p) g = record { stands = g.stands; parent = upd1 g.parent c p }
apply (enter c r) g = record { stands = λ p l. g.stands p l || (eqb p c && among l r); parent = g.parent }
apply (strike c r) g = record { stands = λ p l. g.stands p l && not (eqb p c && among l r); parent = g.parent }
apply (strike_all m) g = record { stands = λ p l. g.stands p l && not (m p); parent = records_zero m 0 g.parent }
apply nothing g = g

-- ── which event a call is ──
-- p is a child of the caller, and stands for each of the lines
unfoldable pub child_for : Ledger → ℕ → Lines → ℕ → Bool
child_for g caller r p = not (eqb p 0) && eqb (g.parent p) caller && all (r.stop - r.start) (λ i. g.stands p (r.start + i))

unfoldable pub struck : Opt ℕ → Lines → Event
struck none r = nothing
struck (some c) r = strike c r

-- a call of these fields by the caller, done with first value v, where entry S has lines r: create makes v a child of the caller, give enters P for the lines, take strikes
-- for them the caller's child that stands for them, delete strikes P, clear out every member of the branch of P, and the others do nothing
unfoldable pub accepted : Ledger → CallFields → ℕ → ℕ → Lines → Event
accepted g f caller v r =
    let n = f.service in
    let p = f.partition.0 in
    cond (eqb n 1) (adopt v caller)
    (cond (eqb n 5) (enter p r)
    (cond (eqb n 6) (struck (lowest 16 (child_for g caller r)) r)
    (cond (eqb n 2) (strike_all (λ q. eqb q p))
    (cond (eqb n 14) (strike_all (branch g.parent p))
    nothing))))

-- a refused call does nothing
unfoldable pub event_of : Ledger → CallFields → ℕ → Outcome → Lines → Event
event_of g f caller (Ok (v, w)) r = accepted g f caller v r
event_of g f caller (Err why) r = nothing

-- the reader's work for a call: its word, the caller and the outcome that it answered, and the lines of its entry
unfoldable pub noted : ℕ → ℕ → Outcome → Lines → Ledger → Ledger
noted w caller o r g = apply (event_of g (fields_in call w) caller o r) g

-- ── over a list of calls ──
-- no entry has no line
unfoldable pub lines_in : Opt Entry → Lines
lines_in none = record { start = 0; stop = 0 }
lines_in (some e) = record { start = e.start; stop = e.stop }

-- what is read of the table: the lines of the caller's entry that the call names
abbrev pub lines_named : Board → List ℕ → ℕ → Lines
lines_named b l w = lines_in ((view l).k.slot (caller_of b l) (fields_in call w).slot.0)

-- the ledger g of the table of words l, kept on over the calls of these words, in order
unfoldable pub kept_on : Board → List ℕ → Ledger → List ℕ → Ledger
kept_on b l g [] = g
kept_on b l g (w ∷ ws) = kept_on b (words_after l (call_on b l w)) (noted w (caller_of b l) (outcome_of (call_on b l w)) (lines_named b l w) g) ws
