-- A packed word: fields and zero bits, most significant first, each of a width in bits. All that is said of one kind of word is said here, once, over the list of its parts.
use Rattle.std.specs.Prelude.{◌≡◌, Bool, true, false, ◌&&◌, List, [], ◌∷◌, ℕ, ◌+◌, ◌*◌, ◌/◌, ◌%◌, ◌^◌, ◌<◌, ltb, eqb}

-- one column of 01's table of words: a field of so many bits, or so many bits that are zero
pub data Part : Type 0 where
  bits : ℕ → Part
  zeros : ℕ → Part

abbrev pub width : List Part → ℕ
width [] = 0
width (bits b ∷ ps) = b + width ps
width (zeros b ∷ ps) = b + width ps

-- the fields that stand in a word, whatever its zero bits
abbrev pub unpack : List Part → ℕ → List ℕ
unpack [] w = []
unpack (bits b ∷ ps) w = w / 2 ^ width ps % 2 ^ b ∷ unpack ps w
unpack (zeros b ∷ ps) w = unpack ps w

-- the word that has these fields, and its zero bits zero
abbrev pub pack_parts : List Part → List ℕ → ℕ
pack_parts [] fs = 0
pack_parts (bits b ∷ ps) [] = 0
pack_parts (bits b ∷ ps) (f ∷ fs) = f * 2 ^ width ps + pack_parts ps fs
pack_parts (zeros b ∷ ps) fs = pack_parts ps fs

-- every zero bit is zero
abbrev pub clean : List Part → ℕ → Bool
clean [] w = true
clean (bits b ∷ ps) w = clean ps w
clean (zeros b ∷ ps) w = eqb (w / 2 ^ width ps % 2 ^ b) 0 && clean ps w

-- there are as many numbers as fields, and no number is too wide for its field
abbrev pub fit : List Part → List ℕ → Bool
fit [] [] = true
fit [] (f ∷ fs) = false
fit (bits b ∷ ps) [] = false
fit (bits b ∷ ps) (f ∷ fs) = ltb f (2 ^ b) && fit ps fs
fit (zeros b ∷ ps) fs = fit ps fs

-- ── the two tests as propositions ──
abbrev pub Clean : List Part → ℕ → Type 0
Clean [] w = Unit {0}
Clean (bits b ∷ ps) w = Clean ps w
Clean (zeros b ∷ ps) w = (w / 2 ^ width ps % 2 ^ b ≡ 0) × Clean ps w

abbrev pub FieldsFit : List Part → List ℕ → Type 0
FieldsFit [] [] = Unit {0}
FieldsFit [] (f ∷ fs) = ⊥
FieldsFit (bits b ∷ ps) [] = ⊥
FieldsFit (bits b ∷ ps) (f ∷ fs) = (f < 2 ^ b) × FieldsFit ps fs
FieldsFit (zeros b ∷ ps) fs = FieldsFit ps fs

-- what stands in the zero bits, added up: none is set exactly if that is 0
abbrev pub zero_sum : List Part → ℕ → ℕ
zero_sum [] w = 0
zero_sum (bits b ∷ ps) w = zero_sum ps w
zero_sum (zeros b ∷ ps) w = w / 2 ^ width ps % 2 ^ b + zero_sum ps w
