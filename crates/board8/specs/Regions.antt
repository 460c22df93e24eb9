-- What the firmware of an ARMv8-M board gets of a region's register pair: written from an entry of a table, and read back.
use Rattle.std.specs.Prelude.{◌≡◌, cond, List, ℕ, Result, Ok, Err}
use Rattle.words.specs.Refusals.{number_of}
use Rattle.shapes.specs.declared.Board.TheVariants.{V8}
use Rattle.tables.specs.State.{Opt, none, some, Entry}
use Rattle.tables.specs.View.{view}
use Rattle.sound.specs.Clauses.{sound}
use Rattle.face.specs.Face.{handed}
use Rattle.pairs.specs.declared.Registers.{Registers}
use Rattle.pairs.specs.Pair.{writes, reads}
use Rattle.words.specs.declared.Refusal.{Refusal}
use Rattle.words.specs.declared.Refusal.TheVariants.{NotSound, NoEntry}

-- ── writing: "1 and 4 as in #102, then 22 for an entry without the read right" ──
-- what stands in a slot: 4 for no entry, which an absent partition and a number out of range have none of
unfoldable pub entry_pair : Opt Entry → Result Registers Refusal
entry_pair none = Err NoEntry
entry_pair (some e) = writes e

unfoldable pub pair_on : List ℕ → ℕ → ℕ → Result Registers Refusal
pair_on bytes p s = cond (sound V8 (handed bytes)) (entry_pair ((view (handed bytes)).k.slot p s)) (Err NotSound)

-- 0, or the refusal; and each register, which a refusal leaves as it was
unfoldable pub write_answer : Result Registers Refusal → ℕ
write_answer (Ok both) = 0
write_answer (Err why) = number_of why

unfoldable pub rbar_after : ℕ → Result Registers Refusal → ℕ
rbar_after before (Ok both) = both.rbar
rbar_after before (Err why) = before

unfoldable pub rlar_after : ℕ → Result Registers Refusal → ℕ
rlar_after before (Ok both) = both.rlar
rlar_after before (Err why) = before

pub record WriteLent (table : List ℕ) (p s rbar rlar r rbar' rlar' : ℕ) : Type 0 where
  pub answer : r ≡ write_answer (pair_on table p s)
  pub base : rbar' ≡ rbar_after rbar (pair_on table p s)
  pub limit : rlar' ≡ rlar_after rlar (pair_on table p s)

-- ── reading back ──
unfoldable pub read_answer : Result ℕ Refusal → ℕ
read_answer (Ok w) = 0
read_answer (Err why) = number_of why

unfoldable pub entry_after : ℕ → Result ℕ Refusal → ℕ
entry_after before (Ok w) = w
entry_after before (Err why) = before

pub record ReadLent (rbar rlar entry r entry' : ℕ) : Type 0 where
  pub answer : r ≡ read_answer (reads rbar rlar)
  pub word : entry' ≡ entry_after entry (reads rbar rlar)
