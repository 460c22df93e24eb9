-- 02's refusals of the register pair, over the promises of the two functions. The theorem is `region_pair` (`Laws/Exactly.antt`).
use Rattle.std.specs.Prelude.{◌≡◌, true, false, List, ◌↔◌, ℕ, ◌^◌, ◌<◌, Ok}
use Rattle.shapes.specs.declared.Board.TheVariants.{V8}
use Rattle.tables.specs.State.{none, some, Entry}
use Rattle.tables.specs.View.{view}
use Rattle.tables.specs.Encode.{slot_word}
use Rattle.sound.specs.Clauses.{sound}
use Rattle.sound.specs.Sound.{Present}
use Rattle.face.specs.Face.{handed}
use Rattle.pairs.specs.Pair.{Readable, writes}
use Rattle.pairs.specs.Exactly.{registers, WrittenByEntry}
use Rattle.board8.specs.Regions.{WriteLent, ReadLent}

-- writing slot s of partition p: answer r, and what the two registers are after it. Not sound; no entry; not readable; readable: these are all.
pub record Writing (bytes : List ℕ) (p s rbar rlar r rbar' rlar' : ℕ) : Type 0 where
  pub unsound : sound V8 (handed bytes) ≡ false → r ≡ 1
  pub no_entry : sound V8 (handed bytes) ≡ true → (view (handed bytes)).k.slot p s ≡ none → r ≡ 4
  -- .. as a number out of range has none, nor an absent partition
  pub outside : sound V8 (handed bytes) ≡ true → (p < 16 → s < 32 → ⊥) → r ≡ 4
  pub absent : sound V8 (handed bytes) ≡ true → (Present (view (handed bytes)).k p → ⊥) → r ≡ 4
  pub unread : sound V8 (handed bytes) ≡ true → (e : Entry) → (view (handed bytes)).k.slot p s ≡ some e → e.rights.read ≡ false → r ≡ 22
  pub written : sound V8 (handed bytes) ≡ true → (e : Entry) → (view (handed bytes)).k.slot p s ≡ some e → e.rights.read ≡ true
      → Readable e × (r ≡ 0) × (writes e ≡ Ok (registers rbar' rlar'))
  -- refused, both registers are as they were
  pub stays : (r ≡ 0 → ⊥) → (rbar' ≡ rbar) × (rlar' ≡ rlar)

-- reading back: 22 exactly where no readable entry writes the pair, and then nothing is written; else the word of the entry that does
pub record Reading (rbar rlar word r word' : ℕ) : Type 0 where
  pub refused : (r ≡ 22) ↔ (WrittenByEntry rbar rlar → ⊥)
  pub stays : r ≡ 22 → word' ≡ word
  pub told : (r ≡ 22 → ⊥) → (r ≡ 0) × ((e : Entry) × Readable e × (e.given ≡ 0) × (e.whole ≡ false) × (word' ≡ slot_word (some e) true) × (writes e ≡ Ok (registers rbar rlar)))

-- who keeps the two promises does so
pub record RegionPair : Type 0 where
  pub write : (bytes : List ℕ) (p s rbar rlar : ℕ) {r rbar' rlar' : ℕ} → WriteLent bytes p s rbar rlar r rbar' rlar' → Writing bytes p s rbar rlar r rbar' rlar'
  pub read : (rbar rlar word : ℕ) {r word' : ℕ} → rbar < 2 ^ 32 → rlar < 2 ^ 32 → ReadLent rbar rlar word r word' → Reading rbar rlar word r word'
