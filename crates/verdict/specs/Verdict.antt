-- The verdict on an image: the lowest of S1 to S11 that fails, and the lowest partition where it fails.
use Rattle.std.specs.Prelude.{◌≡◌, Bool, cond, not, List, ℕ, ◌+◌, ◌*◌, ◌/◌, ◌%◌, ◌≤◌, ◌<◌, eqb, length, Ok, Err}
use Rattle.loops.specs.Loops.{seek}
use Rattle.shapes.specs.declared.Board.{Board}
use Rattle.words.specs.declared.Partition.{Partition}
use Rattle.memory.specs.Bytes.{words_of}
use Rattle.sound.specs.Sound.{Clause, Lower}
use Rattle.sound.specs.Clauses.{clause_at}
use Rattle.verdict.specs.declared.Verdict.{Verdict}
use Rattle.verdict.specs.declared.Verdict.TheVariants.{Accepted, Fails, Length}
use Rattle.tables.specs.Outcomes.{Outcome}
use Rattle.words.specs.declared.Refusal.TheVariants.{NotSound}

-- The 176 tests in their order: S1 at partitions 0 to 15, then S2 at 0 to 15, .. Number m of them fails.
unfoldable pub fails_at : Board → List ℕ → ℕ → Bool
fails_at b l m = not (clause_at b l (1 + m / 16) (m % 16))

unfoldable pub failing : ℕ → Verdict
failing m = Fails (1 + m / 16) (record { 0 = m % 16 })

-- the lowest of them that fails
unfoldable pub verdict : Board → List ℕ → Verdict
verdict b l = seek (fails_at b l) failing Accepted 176

-- of the bytes of an image
unfoldable pub image_verdict : Board → List ℕ → Verdict
image_verdict b bytes = cond (eqb (length bytes) 5128) (verdict b (words_of bytes)) Length

-- for C: an image of another length is refused with NotSound; 0 where it is sound, else 16 * clause + partition
unfoldable pub checked : Verdict → Outcome
checked Accepted = Ok (0, 0)
checked (Fails n p) = Ok (16 * n + p.0, 0)
checked Length = Err NotSound

-- ── what it means ──
-- clause n is the lowest that fails, and p is the lowest partition where it fails
pub record Names (b : Board) (l : List ℕ) (n p : ℕ) : Type 0 where
  pub from : 1 ≤ n
  pub to : n < 12
  pub partition : p < 16
  pub lower : Lower b l n
  pub before : (q : ℕ) → q < p → Clause b l n q
  pub fails : Clause b l n p → ⊥

-- what is named is a clause and a partition
pub record ClauseNamed (v : Verdict) : Type 0 where
  pub fails : (n : ℕ) (p : Partition) → v ≡ Fails n p → (n < 12) × (p.0 < 16)
