-- What a call answers, and the words after it.
use Rattle.std.specs.Prelude.{◌≡◌, cond, List, ℕ}
use Rattle.shapes.specs.declared.Board.{Board}
use Rattle.tables.specs.View.{view}
use Rattle.sound.specs.Clauses.{sound}
use Rattle.rules.specs.declared.Answer.{Answer}
use Rattle.rules.specs.Rules.{call_on}
use Rattle.rules.specs.Ran.{Ran}
use Rattle.rules.specs.Reads.{stands_after}
use Rattle.rules.specs.Changes.{changed_after}

-- the caller's number before the call; 0 where refusal 1 is given
unfoldable pub caller_of : Board → List ℕ → ℕ
caller_of b l = cond (sound b l) (view l).k.current 0

-- the answer: the caller beside the outcome of the rule, whether it stands, and whose records it can have changed; and every word afterwards
pub record CallAnswers (b : Board) (before : List ℕ) (w : ℕ) (r : Answer) (after : List ℕ) : Type 0 where
  pub caller : r.caller.0 ≡ caller_of b before
  pub ran : Ran (call_on b before w) before r.outcome after
  pub stands : r.stands ≡ stands_after b before w
  pub changed : r.changed ≡ changed_after b before w
