-- WHAT A BRANCH CAN'T TOUCH (02, request 112). Statements only: Laws/Theorem.antt and Laws/TwoLists.antt prove them, docs/BRANCH.md says them in plain sentences.
-- Under (rules) is the branch: q is k or a descendant of it. Above (sound): q is k or above it. Both go by the tree of one table.
use Rattle.std.specs.Prelude.{◌≡◌, Bool, List, [], ◌∷◌, ℕ, ◌<◌}
use Rattle.words.specs.Kind.{fields_in}
use Rattle.words.specs.Words.{call}
use Rattle.shapes.specs.declared.Board.{Board}
use Rattle.tables.specs.State.{Opt, Entry, K}
use Rattle.tables.specs.View.{record_word, area_word_at, blank_word_at, slot_word_at, view}
use Rattle.tables.specs.Encode.{slot_word, encode}
use Rattle.tables.specs.Write.{put_current}
use Rattle.tables.specs.Fitting.{Words}
use Rattle.sound.specs.Sound.{Present, Sound}
use Rattle.sound.specs.Properties.{Above}
use Rattle.rules.specs.Branch.{Under}
use Rattle.rules.specs.Rules.{call_on, words_after}
use Rattle.rules.specs.Ran.{outcome_of}
use Rattle.isolation.specs.Whole.{Reads, after_all}

-- "any list of calls, each made while the current partition is k or a descendant of k": by the table of that call, and whether it is done or refused
unfoldable pub Within : Board → ℕ → List ℕ → List ℕ → Type 0
Within b k l [] = Unit {0}
Within b k l (w ∷ ws) = Under (view l).k.parent k (view l).k.current × Within b k (words_after l (call_on b l w)) ws

-- "partitions that were present at the start and [not] in k's branch"
pub record Outside (t : K) (k p : ℕ) : Type 0 where
  pub present : Present t p
  pub out : Under t.parent k p → ⊥

-- ".. and neither in k's branch nor above k"
pub record Beside (t : K) (k p : ℕ) : Type 0 where
  pub outside : Outside t k p
  pub apart : Above t.parent p k → ⊥

-- strictly above k
pub record Higher (t : K) (k p : ℕ) : Type 0 where
  pub above : Above t.parent p k
  pub other : p ≡ k → ⊥

-- two words of a slot that "differ at most in open bits": they have the same entry, or none
pub record ButOpen (before after : ℕ) : Type 0 where
  pub entry : Opt Entry
  pub was : Bool
  pub is : Bool
  pub before_is : before ≡ slot_word entry was
  pub after_is : after ≡ slot_word entry is

-- What calls in the branch of k leave of the words l. Numbers that are absent in l are not spoken of.
pub record Untouched (k : ℕ) (l after : List ℕ) : Type 0 where
  -- "bit for bit the same": the 40 words of a record
  pub beside : (p o : ℕ) → p < 16 → o < 40 → Beside (view l).k k p → record_word after p o ≡ record_word l p o
  -- "records above k differ at most in open bits and region bytes": header and structures, the two words that hold nothing, and the slots but for open bits
  pub higher_areas : (p j : ℕ) → p < 16 → j < 5 → Higher (view l).k k p → area_word_at after p j ≡ area_word_at l p j
  pub higher_blanks : (p o : ℕ) → p < 16 → o < 2 → Higher (view l).k k p → blank_word_at after p o ≡ blank_word_at l p o
  pub higher_slots : (p i : ℕ) → p < 16 → i < 32 → Higher (view l).k k p → ButOpen (slot_word_at l p i) (slot_word_at after p i)

-- "with the current partition then set to [p]"
abbrev pub turned_to : ℕ → List ℕ → List ℕ
turned_to p l = encode (put_current (view l) p)

-- "find and read region on itself give it the same words", in the words l and m
abbrev pub SameAnswers : Board → ℕ → List ℕ → List ℕ → Type 0
SameAnswers b p l m = (w : ℕ) → Reads (fields_in call w) → (fields_in call w).partition.0 ≡ p → outcome_of (call_on b (turned_to p l) w) ≡ outcome_of (call_on b (turned_to p m) w)

-- REQUEST 112, over words: of a sound table l, and the words after any list of calls (after_all)
pub record BranchWords (b : Board) : Type 0 where
  pub untouched : {k : ℕ} (l ws : List ℕ) → Words l → Sound b l → Within b k l ws → Untouched k l (after_all b l ws)
  -- "after either of two such lists from one table", for a partition beside the branch
  pub answers : {k p : ℕ} (l ws vs : List ℕ) → Words l → Sound b l → Within b k l ws → Within b k l vs → Beside (view l).k k p
      → SameAnswers b p (after_all b l ws) (after_all b l vs)
