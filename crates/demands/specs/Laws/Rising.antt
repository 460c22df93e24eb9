-- The numbers of every ladder rise.
use Rattle.std.specs.Prelude.{Bool, true, false, cond, List, ℕ}
use Rattle.std.proofs.Common.{lit≤}
use Rattle.words.specs.Kind.{fields_in, Zeroed}
use Rattle.words.specs.Words.{call}
use Rattle.words.specs.declared.call_word.CallFields.{CallFields}
use Rattle.words.specs.declared.Refusal.TheVariants.{BadWord}
use Rattle.shapes.specs.declared.Board.{Board}
use Rattle.tables.specs.State.{Table}
use Rattle.tables.specs.View.{view}
use Rattle.isolation.specs.Ladder.{Ladder, must}
use Rattle.isolation.specs.Ladders.{boot_ladder, numbered_ladder, serve_ladder, call_ladder}
use Rattle.demands.specs.Demands.{holders_ladder, runs_ladder}
use Rattle.demands.specs.Laws.Lowest.{Rises, top, rung, value, number}

-- a row of the services, or the rows after it
either : (b : Bool) {n : ℕ} {c d : Ladder} → Rises n c → Rises n d → Rises n (cond b c d)
either true x y = x
either false x y = y

numbered_rises : (board : Board) (n : ℕ) (t : Table) (f : CallFields) → Rises 2 (numbered_ladder board n t f)
numbered_rises board n t f = search (either, top, rung, value, number, lit≤) depth 40 fits 4000

-- after 1 comes 2
pub word_rises : (board : Board) (t : Table) (w : ℕ) → Rises 2 (must BadWord (Zeroed call w) (serve_ladder board t (fields_in call w)))
word_rises board t w = let services = numbered_rises board (fields_in call w).service t (fields_in call w) in search (rung, services, lit≤) depth 10

pub call_rises : (board : Board) (l : List ℕ) (w : ℕ) → Rises 1 (call_ladder board l w)
call_rises board l w = let services = numbered_rises board (fields_in call w).service (view l) (fields_in call w) in search (rung, services, lit≤) depth 10

pub boot_rises : (l : List ℕ) (base end : ℕ) → Rises 1 (boot_ladder l base end)
boot_rises l base end = search (top, rung, lit≤) depth 10

pub holders_rises : (board : Board) (t : List ℕ) (m size : ℕ) → Rises 1 (holders_ladder board t m size)
holders_rises board t m size = search (top, rung, lit≤) depth 10

pub runs_rises : (board : Board) (t : List ℕ) (size : ℕ) → Rises 1 (runs_ladder board t size)
runs_rises board t size = search (top, rung, lit≤) depth 10
