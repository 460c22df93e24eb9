-- A SHEET BESIDE THE TABLE (02, request 108), over the two C functions that keep it. Statements only; Laws/SheetProof.antt has the proofs.
-- BootSheetLent and CallSheetLent (facesheet/specs/Sheets) are the promises of ulavrepit_boot_sheet and ulavrepit_call_sheet; masks_of, lines_for and sheet_of
-- (sheet/specs/Sheet) say what the sheet of a table is.
use Rattle.std.specs.Prelude.{◌≡◌, List, [], ◌∷◌, ◌↔◌, ℕ, ◌+◌, ◌-◌, ◌*◌, ◌<◌, length, get_or, Ok}
use Rattle.words.specs.Kind.{RoundTrips, reading, fields_in}
use Rattle.words.specs.Words.{masks, lines}
use Rattle.shapes.specs.declared.Board.{Board}
use Rattle.tables.specs.State.{none, Table}
use Rattle.tables.specs.View.{view}
use Rattle.memory.specs.Bytes.{word_at, record_byte}
use Rattle.sound.specs.Sound.{Present, Sound}
use Rattle.sheetrules.specs.Sheet.{masks_of, lines_for, sheet_of}
use Rattle.sheetrules.specs.Bytes.{sheet_bytes}
use Rattle.face.specs.Face.{handed, CallLent}
use Rattle.facesheet.specs.Sheets.{BootSheetLent, CallSheetLent}
use Rattle.demands.specs.Demands.{Bytes, BootLent, refusal_in, Accepted}

-- the bytes s are the sheet of the table's bytes b, worked out afresh
abbrev pub IsSheet : List ℕ → List ℕ → Type 0
IsSheet b s = s ≡ sheet_bytes (sheet_of (view (handed b)))

-- what C reads of partition p in the two words of a sheet: the fields, or, of an absent partition, zero words
pub record SheetPair (t : Table) (p first second : ℕ) : Type 0 where
  pub present : Present t.k p → (reading masks first ≡ Ok (masks_of t.k p)) × (reading lines second ≡ Ok (lines_for t p))
  pub absent : t.k.area p 0 ≡ none → (first ≡ 0) × (second ≡ 0)

-- calls of the words ws, one after the other, each handed the table and the sheet that the one before it left, take these from b and s to d and u
pub data CalledBeside (board : Board) : List ℕ → List ℕ → List ℕ → List ℕ → List ℕ → Type 0 where
  no_call : {b s : List ℕ} → CalledBeside board b s [] b s
  one_call : {b s c s' d u ws : List ℕ} {w v r v' : ℕ} → CallSheetLent board b s w v r c s' v' → CalledBeside board c s' ws d u → CalledBeside board b s (w ∷ ws) d u

-- what is so of the table's bytes d and the sheet u beside them, of memory from base to end
pub record KeptBeside (board : Board) (base end : ℕ) (d u : List ℕ) : Type 0 where
  pub sound : Sound board (handed d)
  pub sheet : IsSheet d u
  -- so 20 never comes up by itself
  pub never_20 : {w v r v' : ℕ} {c u' : List ℕ} → CallSheetLent board d u w v r c u' v' → refusal_in r ≡ 20 → ⊥
  -- "lines held by the root always come to end less base"
  pub root : (fields_in lines (word_at u 1)).held ≡ end - base

-- REQUEST 108, over bytes
pub record SheetDemand (board : Board) : Type 0 where
  -- whatever is handed over gets an answer; the fields below say which
  pub boot_answers : (b s : List ℕ) (base end : ℕ) → (r : ℕ) × (c s' : List ℕ) × BootSheetLent b s base end r c s'
  pub call_answers : (b s : List ℕ) (w v : ℕ) → (r : ℕ) × (c s' : List ℕ) × (v' : ℕ) × CallSheetLent board b s w v r c s' v'
  -- boot: 1 and then 20 by the two lengths, all else as ulavrepit_boot
  pub boot_1 : (base end : ℕ) {b s : List ℕ} {r : ℕ} {c s' : List ℕ} → BootSheetLent b s base end r c s' → (refusal_in r ≡ 1) ↔ (length b ≡ 5128 → ⊥)
  pub boot_20 : (base end : ℕ) {b s : List ℕ} {r : ℕ} {c s' : List ℕ} → BootSheetLent b s base end r c s' → (refusal_in r ≡ 20) ↔ ((length b ≡ 5128) × (length s ≡ 256 → ⊥))
  pub boot_else : (base end : ℕ) {b s : List ℕ} {r : ℕ} {c s' : List ℕ} → BootSheetLent b s base end r c s' → length s ≡ 256 → BootLent b base end r c
  -- a call: 1 where the table is not sound, 20, "next after 1", where the sheet is not the table's, all else as ulavrepit_call
  pub call_1 : {b s : List ℕ} {w v r : ℕ} {c s' : List ℕ} {v' : ℕ} → Bytes b → CallSheetLent board b s w v r c s' v' → (refusal_in r ≡ 1) ↔ (Sound board (handed b) → ⊥)
  pub call_20 : {b s : List ℕ} {w v r : ℕ} {c s' : List ℕ} {v' : ℕ} → Bytes b → Bytes s → CallSheetLent board b s w v r c s' v'
      → (refusal_in r ≡ 20) ↔ (Sound board (handed b) × (IsSheet b s → ⊥))
  pub call_else : {b s : List ℕ} {w v r : ℕ} {c s' : List ℕ} {v' : ℕ} → Bytes b → CallSheetLent board b s w v r c s' v' → (Sound board (handed b) → IsSheet b s) → CallLent board b w v r c v'
  -- "a refusal changes neither"
  pub boot_unchanged : (base end : ℕ) {b s : List ℕ} {r : ℕ} {c s' : List ℕ} → BootSheetLent b s base end r c s' → (Accepted r → ⊥) → (c ≡ b) × (s' ≡ s)
  pub call_unchanged : {b s : List ℕ} {w v r : ℕ} {c s' : List ℕ} {v' : ℕ} → CallSheetLent board b s w v r c s' v' → (Accepted r → ⊥) → (c ≡ b) × (s' ≡ s) × (v' ≡ v)
  -- "after every accepted call the sheet equals the one worked out afresh"; boot writes it from any content
  pub boot_afresh : (base end : ℕ) {b s : List ℕ} {r : ℕ} {c s' : List ℕ} → BootSheetLent b s base end r c s' → Accepted r → IsSheet c s'
  pub call_afresh : {b s : List ℕ} {w v r : ℕ} {c s' : List ℕ} {v' : ℕ} → Bytes b → CallSheetLent board b s w v r c s' v' → Accepted r → IsSheet c s'
  -- "the two words of a partition whose record didn't change are as they were": the 320 bytes of the record, the 16 of the words
  pub kept : {b s : List ℕ} {w v r : ℕ} {c s' : List ℕ} {v' : ℕ} → Bytes b → Bytes s → CallSheetLent board b s w v r c s' v' → Accepted r
      → (p : ℕ) → p < 16 → ((n : ℕ) → n < 320 → record_byte c p n ≡ record_byte b p n) → (n : ℕ) → n < 16 → get_or s' (16 * p + n) 0 ≡ get_or s (16 * p + n) 0
  -- what is read of each partition of a sound table
  pub pairs : (b : List ℕ) {s : List ℕ} → Bytes b → Sound board (handed b) → IsSheet b s → (p : ℕ) → p < 16 → SheetPair (view (handed b)) p (word_at s (2 * p)) (word_at s (2 * p + 1))
  -- after any list of calls from an accepted boot
  pub session : (base end : ℕ) {b s : List ℕ} {r : ℕ} {c s' : List ℕ} → BootSheetLent b s base end r c s' → Accepted r → {ws d u : List ℕ} → CalledBeside board c s' ws d u
      → KeptBeside board base end d u
  -- both kinds of word round-trip both ways
  pub masks_trip : RoundTrips masks
  pub lines_trip : RoundTrips lines
