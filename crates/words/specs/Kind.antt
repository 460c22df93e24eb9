-- A kind of word: its parts and the struct that has its fields. What a reader and a writer answer, and both round trips, once for every kind.
use Rattle.std.specs.Prelude.{◌≡◌, Bool, cond, List, ℕ, ◌^◌, ◌<◌, Result, Ok, Err}
use Rattle.words.specs.Parts.{Part, width, unpack, pack_parts, clean, fit, Clean, FieldsFit}
use Rattle.words.specs.declared.Refusal.{Refusal}
use Rattle.words.specs.declared.Refusal.TheVariants.{BadWord}

-- A: the struct of the fields
pub record Kind (A : Type 0) : Type 0 where
  pub parts : List Part
  pub of : List ℕ → A
  pub list : A → List ℕ

module _ {A : Type 0} (k : Kind A) where
  -- the fields that stand in a word, whatever its zero bits
  abbrev pub fields_in : ℕ → A
  fields_in w = k.of (unpack k.parts w)

  -- the word that has these fields
  abbrev pub word_of : A → ℕ
  word_of f = pack_parts k.parts (k.list f)

  -- no zero bit of the word is set, as a test
  abbrev pub zeroed : ℕ → Bool
  zeroed w = clean k.parts w

  -- the fields, or refused with 2 where a zero bit is set
  abbrev pub reading : ℕ → Result A Refusal
  reading w = cond (zeroed w) (Ok (fields_in w)) (Err BadWord)

  -- the word, or refused with 2 where a field is too wide
  abbrev pub writing : A → Result ℕ Refusal
  writing f = cond (fit k.parts (k.list f)) (Ok (word_of f)) (Err BadWord)

  -- no zero bit of the word is set; no field is too wide
  abbrev pub Zeroed : ℕ → Type 0
  Zeroed w = Clean k.parts w

  abbrev pub InRange : A → Type 0
  InRange f = FieldsFit k.parts (k.list f)

-- ── both round trips ──
-- the parts fill a word; the struct has the fields of the list, and no other
pub record Lawful {A : Type 0} (k : Kind A) : Type 0 where
  pub whole : width k.parts ≡ 64
  pub of_list : (f : A) → k.of (k.list f) ≡ f
  pub list_of : (w : ℕ) → k.list (fields_in k w) ≡ unpack k.parts w

pub record RoundTrips {A : Type 0} (k : Kind A) : Type 0 where
  -- a word with its zero bits zero, read and written, is the same word
  pub words : (w : ℕ) → w < 2 ^ 64 → Zeroed k w → (reading k w ≡ Ok (fields_in k w)) × (writing k (fields_in k w) ≡ Ok w)
  -- fields in range, written and read, are the same fields
  pub values : (f : A) → InRange k f → (writing k f ≡ Ok (word_of k f)) × (reading k (word_of k f) ≡ Ok f)
