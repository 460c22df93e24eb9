-- Calls after which the table stands by their service or by what they are, whatever they answer: every word is as it was.
use Rattle.std.specs.Prelude.{Bool, true, cond, ◌||◌, List, ℕ, eqb, Result, Ok, Err}
use Rattle.words.specs.Kind.{reading}
use Rattle.words.specs.Words.{call}
use Rattle.shapes.specs.declared.Board.{Board}
use Rattle.sound.specs.Clauses.{sound}
use Rattle.words.specs.declared.Refusal.{Refusal}
use Rattle.words.specs.declared.call_word.CallFields.{CallFields}

-- 11 read region, 12 find, and a word that is refused
unfoldable pub only_reads : Result CallFields Refusal → Bool
only_reads (Ok f) = eqb f.service 11 || eqb f.service 12
only_reads (Err why) = true

-- .. and a table that is refused
unfoldable pub stands_after : Board → List ℕ → ℕ → Bool
stands_after b l w = cond (sound b l) (only_reads (reading call w)) true
