-- 02 on the register pair: it is read back, and 22 is given exactly. The theorem is `pairs` (`Laws/Exactly.antt`).
use Rattle.std.specs.Prelude.{◌≡◌, true, false, ◌↔◌, ℕ, ◌^◌, ◌<◌, Ok, Err}
use Rattle.tables.specs.State.{some, Entry, entry}
use Rattle.tables.specs.Encode.{slot_word}
use Rattle.pairs.specs.declared.Registers.{Registers}
use Rattle.pairs.specs.Pair.{Readable, bare, writes, reads}
use Rattle.words.specs.declared.Refusal.TheVariants.{WrongPair}

abbrev pub registers : ℕ → ℕ → Registers
registers rbar rlar = record { rbar = rbar; rlar = rlar }

-- the pair is one that a readable entry writes
abbrev pub WrittenByEntry : ℕ → ℕ → Type 0
WrittenByEntry rbar rlar = (e : Entry) × Readable e × (writes e ≡ Ok (registers rbar rlar))

pub record Pairs : Type 0 where
  -- what was written reads back: the same range and rights, and of an entry that is neither given nor whole its own word
  pub back : (e : Entry) (rbar rlar : ℕ) → Readable e → writes e ≡ Ok (registers rbar rlar) → reads rbar rlar ≡ Ok (slot_word (some (bare e)) true)
  pub own : (e : Entry) (rbar rlar : ℕ) → Readable e → e.given ≡ 0 → e.whole ≡ false → writes e ≡ Ok (registers rbar rlar) → reads rbar rlar ≡ Ok (slot_word (some e) true)
  -- what reads was written: by the entry that it tells
  pub only : (rbar rlar w : ℕ) → rbar < 2 ^ 32 → rlar < 2 ^ 32 → reads rbar rlar ≡ Ok w
      → (e : Entry) × Readable e × (e.given ≡ 0) × (e.whole ≡ false) × (w ≡ slot_word (some e) true) × (writes e ≡ Ok (registers rbar rlar))
  -- writing gives "22 for an entry without the read right": an entry of a sound table has lines, below 2 ^ 27
  pub unread : (e : Entry) → e.start < e.stop → e.stop < 2 ^ 27 → (writes e ≡ Err WrongPair) ↔ (e.rights.read ≡ false)
  -- reading back gives "22 for exactly those pairs that no readable entry writes"
  pub unwritten : (rbar rlar : ℕ) → rbar < 2 ^ 32 → rlar < 2 ^ 32 → (reads rbar rlar ≡ Err WrongPair) ↔ (WrittenByEntry rbar rlar → ⊥)
  -- lines 288 to 512, read and write: f000001200000400
  pub printed : writes (entry 288 512 0 (record { read = true; write = true; execute = false }) false) ≡ Ok (registers 0x2403 0x3fe1)
