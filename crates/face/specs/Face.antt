-- What C hands over and gets back: bytes for words, and one number of 64 bits for an answer.
use Rattle.std.specs.Prelude.{◌≡◌, cond, List, [], ℕ, ◌+◌, ◌*◌, ◌^◌, length, eqb, Ok, Err}
use Rattle.shapes.specs.declared.Board.{Board}
use Rattle.tables.specs.Encode.{encode}
use Rattle.memory.specs.Bytes.{words_of, bytes_of}
use Rattle.tables.specs.Outcomes.{answered, Outcome}
use Rattle.sound.specs.Holders.{holders_outcome, holders_bytes}
use Rattle.rules.specs.Rules.{Effect, done, refused, call_on}
use Rattle.rules.specs.Ran.{outcome_of}
use Rattle.rules.specs.Calls.{caller_of}

-- the words that are handed over as bytes; another number of bytes is no table
unfoldable pub handed : List ℕ → List ℕ
handed b = cond (eqb (length b) 5128) (words_of b) []

-- refusal + 2^8 * caller + 2^32 * first
abbrev pub result_packed : ℕ → ℕ → ℕ → ℕ
result_packed refusal caller first = refusal + (2 ^ 8 * caller + 2 ^ 32 * first)

-- the refusal number, the caller and the first value
unfoldable pub result_of : ℕ → Outcome → ℕ
result_of caller o = result_packed (answered o).refusal caller (answered o).first

-- the second value is written only when done
unfoldable pub second_after : ℕ → Outcome → ℕ
second_after before (Ok (v, w)) = (answered (Ok (v, w))).second
second_after before (Err n) = before

-- the bytes after: those of the table after, or, refused, as they were
unfoldable pub bytes_after : List ℕ → Effect → List ℕ
bytes_after b (done v w t) = bytes_of (encode t)
bytes_after b (refused n) = b

-- what a function that writes the table promises of its result and of every byte
pub record Lent (caller : ℕ) (res : Effect) (before : List ℕ) (r : ℕ) (after : List ℕ) : Type 0 where
  pub result : r ≡ result_of caller (outcome_of res)
  pub bytes : after ≡ bytes_after before res

-- .. and the second value, of a call of word w
pub record CallLent (b : Board) (before : List ℕ) (w s r : ℕ) (after : List ℕ) (s' : ℕ) : Type 0 where
  pub table : Lent (caller_of b (handed before)) (call_on b (handed before) w) before r after
  pub second : s' ≡ second_after s (outcome_of (call_on b (handed before) w))

-- what holders of line l promises: its result, every byte of the list, the second value
pub record ListLent (b : Board) (table : List ℕ) (l : ℕ) (before : List ℕ) (s r : ℕ) (after : List ℕ) (s' : ℕ) : Type 0 where
  pub result : r ≡ result_of 0 (holders_outcome b (handed table) l (length before))
  pub bytes : after ≡ holders_bytes b (handed table) l before
  pub second : s' ≡ second_after s (holders_outcome b (handed table) l (length before))
