-- What the code of a service promises: the outcome that its rule gives, and every word of the table afterwards.
use Rattle.std.specs.Prelude.{◌≡◌, List, ℕ, Ok, Err}
use Rattle.rules.specs.Rules.{Effect, done, refused, words_after}
use Rattle.tables.specs.Outcomes.{Outcome}

-- the outcome of a result: its number and values are those of `answered`
unfoldable pub outcome_of : Effect → Outcome
outcome_of (done v w t) = Ok (v, w)
outcome_of (refused why) = Err why

pub record Ran (res : Effect) (before : List ℕ) (r : Outcome) (after : List ℕ) : Type 0 where
  pub outcome : r ≡ outcome_of res
  pub words : after ≡ words_after before res
