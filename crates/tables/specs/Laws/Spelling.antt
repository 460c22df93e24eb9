-- The 40 words of a record are these kinds and no other; and the words of a table, and canonical words, are what they hold.
use Rattle.std.specs.Prelude.{◌≡◌, List, length}
use Rattle.std.proofs.Math.Path.{refl, ap}
use Rattle.std.proofs.Common.{sym, ◌∙◌}
use Rattle.std.proofs.Math.ListN.{get_or}
use Prim.Native.Nat.{ℕ, ◌+◌, ◌-◌, ◌*◌, ◌/◌, ◌%◌, ◌<◌}
use native.Mathlib.Omega.{arith}
use Rattle.std.proofs.Math.Decide.{ℕ_discrete, dec_lt}
use Rattle.words.specs.Kind.{word_of}
use Rattle.words.specs.Words.{first}
use Rattle.tables.specs.State.{Table}
use Rattle.tables.specs.View.{area_place, regions_place, slot_place, first_word, record_word, area_word_at, regions_word_at, blank_word_at, slot_word_at, view}
use Rattle.tables.specs.Encode.{slot_word, header_word, structure_word, regions_word, first_for, part_word, word_for, encode, Canon}
use Rattle.tables.specs.Laws.Encode.{encode_is, encode_at, canon_at, at_first, at_part, at_slot, at_header, at_structure, at_regions, at_blank}
use Rattle.tables.specs.Spelling.{ZeroWords}

-- ── word o of the 40 of p ──
module _ (l : List ℕ) (p : ℕ) where
  pub area_word : (j : ℕ) → record_word l p j ≡ area_word_at l p j
  unfolding record_word area_word_at
  area_word j = refl

  pub regions_word_law : record_word l p 5 ≡ regions_word_at l p
  unfolding record_word regions_word_at
  regions_word_law = ap (λ (n : ℕ). get_or l n 0) (omega arith)

  pub blank_word : (o : ℕ) → record_word l p (6 + o) ≡ blank_word_at l p o
  unfolding record_word blank_word_at
  blank_word o = refl

  pub slot_word_law : (i : ℕ) → record_word l p (8 + i) ≡ slot_word_at l p i
  unfolding record_word slot_word_at
  slot_word_law i = ap (λ (n : ℕ). get_or l n 0) (omega arith)

-- what holds of the header, four structures, the regions, two blank words and 32 slots holds of all 40 words of a record
each_word : (P : ℕ → Type 0) → P 0 → ((j : ℕ) → j < 4 → P (1 + j)) → P 5 → ((o : ℕ) → o < 2 → P (6 + o)) → ((i : ℕ) → i < 32 → P (8 + i)) → (o : ℕ) → o < 40 → P o
each_word P h s r b e o l = go (ℕ_discrete o 0) (dec_lt o 5) (ℕ_discrete o 5) (dec_lt o 8)
  where
    go : Dec (o ≡ 0) → Dec (o < 5) → Dec (o ≡ 5) → Dec (o < 8) → P o
    go (yes z) _ _ _ = rw z h
    go (no z) (yes x) _ _ = let q : 1 + (o - 1) ≡ o = omega arith in rw q at (s (o - 1) (omega arith))
    go (no z) (no x) (yes y) _ = rw y r
    go (no z) (no x) (no y) (yes w) = let q : 6 + (o - 6) ≡ o = omega arith in rw q at (b (o - 6) (omega arith))
    go (no z) (no x) (no y) (no w) = let q : 8 + (o - 8) ≡ o = omega arith in rw q at (e (o - 8) (omega arith))

-- ── the 40 words of p are zero ──
-- .. each of them
module _ (l : List ℕ) (p : ℕ) (z : ZeroWords l p) where
  pub zero_areas : (j : ℕ) → j < 5 → area_word_at l p j ≡ 0
  zero_areas j h = sym (area_word l p j) ∙ z j (omega arith)

  pub zero_regions : regions_word_at l p ≡ 0
  zero_regions = sym (regions_word_law l p) ∙ z 5 (omega arith)

  pub zero_blanks_law : (o : ℕ) → o < 2 → blank_word_at l p o ≡ 0
  zero_blanks_law o h = sym (blank_word l p o) ∙ z (6 + o) (omega arith)

  pub zero_slots : (i : ℕ) → i < 32 → slot_word_at l p i ≡ 0
  zero_slots i h = sym (slot_word_law l p i) ∙ z (8 + i) (omega arith)

-- .. and all, if each is
pub zero_words : (l : List ℕ) (p : ℕ) → ((j : ℕ) → j < 5 → area_word_at l p j ≡ 0) → regions_word_at l p ≡ 0 → ((o : ℕ) → o < 2 → blank_word_at l p o ≡ 0)
    → ((i : ℕ) → i < 32 → slot_word_at l p i ≡ 0) → ZeroWords l p
zero_words l p a r b s =
    each_word (λ o. record_word l p o ≡ 0)
    (area_word l p 0 ∙ a 0 (omega arith))
    (λ j h. area_word l p (1 + j) ∙ a (1 + j) (omega arith))
    (regions_word_law l p ∙ r)
    (λ o h. blank_word l p o ∙ b o h)
    (λ i h. slot_word_law l p i ∙ s i h)

-- ── the words l are those of the table t ──
-- the 40 of p
pub record SpellsAt (l : List ℕ) (t : Table) (p : ℕ) : Type 0 where
  pub header : area_word_at l p 0 ≡ header_word (t.k.parent p) (t.k.area p 0)
  pub structure : (j : ℕ) → 0 < j → j < 5 → area_word_at l p j ≡ structure_word (t.k.area p j)
  pub regions : regions_word_at l p ≡ regions_word (t.region p)
  pub blank : (o : ℕ) → o < 2 → blank_word_at l p o ≡ 0
  pub slot : (i : ℕ) → i < 32 → slot_word_at l p i ≡ slot_word (t.k.slot p i) (t.opened p i)

pub record Spells (l : List ℕ) (t : Table) : Type 0 where
  pub first : first_word l ≡ word_of first (first_for t.k)
  pub at : (p : ℕ) → p < 16 → SpellsAt l t p

module _ (l : List ℕ) (t : Table) where
  -- word by word
  abbrev EachWord : Type 0
  EachWord = (n : ℕ) → n < 641 → get_or l n 0 ≡ word_for t n

  spells_of : EachWord → Spells l t
  unfolding first_word area_word_at regions_word_at blank_word_at slot_word_at
  spells_of h = record {
    first = h 0 (omega arith) ∙ at_first t;
    at = λ p b. record {
      header = h (area_place p 0) (omega arith) ∙ at_header t p;
      structure = λ j x y. h (area_place p j) (omega arith) ∙ at_structure t p j x y;
      regions = h (regions_place p) (omega arith) ∙ at_regions t p;
      blank = λ o x. h (1 + 40 * p + (6 + o)) (omega arith) ∙ at_blank t p o x;
      slot = λ i x. h (slot_place p i) (omega arith) ∙ at_slot t p i x;
    };
  }

  each_of_law : Spells l t → EachWord
  unfolding first_word area_word_at regions_word_at blank_word_at slot_word_at
  each_of_law s n h = go (ℕ_discrete n 0)
    where
      same : ℕ → Type 0
      same n = get_or l n 0 ≡ word_for t n

      part : (p : ℕ) → p < 16 → (o : ℕ) → o < 40 → same (1 + 40 * p + o)
      part p b =
          let a = s.at p b in
          let r : 1 + 40 * p + 5 ≡ regions_place p = omega arith in
          each_word (λ o. same (1 + 40 * p + o))
          (a.header ∙ sym (at_header t p))
          (λ j x. a.structure (1 + j) (omega arith) (omega arith) ∙ sym (at_structure t p (1 + j) (omega arith) (omega arith)))
          (rw r (a.regions ∙ sym (at_regions t p)))
          (λ o x. a.blank o x ∙ sym (at_blank t p o x))
          (λ i x. let q : 1 + 40 * p + (8 + i) ≡ slot_place p i = omega arith in rw q (a.slot i x ∙ sym (at_slot t p i x)))

      go : Dec (n ≡ 0) → same n
      go (yes z) = rw z (s.first ∙ sym (at_first t))
      go (no z) =
          let e : 1 + 40 * ((n - 1) / 40) + (n - 1) % 40 ≡ n = omega arith in
          rw e at (part ((n - 1) / 40) (omega arith) ((n - 1) % 40) (omega arith))

pub encode_spells : (t : Table) → Spells (encode t) t
encode_spells t = spells_of (encode t) t (encode_at t)

-- canonical: the words are those of the table that they are seen as
pub canon_spells : {l : List ℕ} → Canon l → Spells l (view l)
canon_spells {l} c = spells_of l (view l) (canon_at c)

pub spells_canon : {l : List ℕ} → length l ≡ 641 → Spells l (view l) → Canon l
spells_canon {l} size s = record { same = encode_is (view l) l size (each_of_law l (view l) s) }

-- .. word by word: word o of the 40 of p
pub encode_record : (t : Table) (p o : ℕ) → p < 16 → o < 40 → record_word (encode t) p o ≡ part_word t p o
unfolding record_word
encode_record t p o a b = encode_at t (1 + 40 * p + o) (omega arith) ∙ at_part t p o b

-- .. of canonical words, and so that of its slot i
module _ {l : List ℕ} (c : Canon l) (p : ℕ) where
  pub canon_record : (o : ℕ) → p < 16 → o < 40 → record_word l p o ≡ part_word (view l) p o
  unfolding record_word
  canon_record o a b = canon_at c (1 + 40 * p + o) (omega arith) ∙ at_part (view l) p o b

  pub canon_slot : (i : ℕ) → p < 16 → i < 32 → record_word l p (8 + i) ≡ slot_word ((view l).k.slot p i) ((view l).opened p i)
  unfolding record_word
  canon_slot i a b =
      let n : 1 + 40 * p + (8 + i) ≡ slot_place p i = omega arith in
      rw n (canon_at c (slot_place p i) (omega arith) ∙ at_slot (view l) p i b)
