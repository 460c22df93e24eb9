-- What stands at each place of a table's words; two lists of words of one table are equal; and canonical words are their own table's.
use Rattle.std.specs.Prelude.{◌≡◌, List, length, get_or, ℕ, ◌+◌, ◌-◌, ◌*◌, ◌/◌, ◌%◌, ◌<◌}
use Rattle.std.proofs.Math.Path.{refl}
use Rattle.std.proofs.Common.{ap, sym, ◌∙◌}
use borrow.Author.Tests.{lt-ltb, le-ltb, ne_eqb}
use native.Mathlib.Omega.{arith}
use Rattle.loops.specs.Laws.Rewrite.{length_tab, tab_at, tab_is}
use Rattle.words.specs.Kind.{word_of}
use Rattle.words.specs.Words.{first, slot}
use Rattle.words.specs.Laws.Fields.{no_regions_word}
use Rattle.tables.specs.State.{none, Table}
use Rattle.tables.specs.View.{area_place, regions_place, slot_place, view}
use Rattle.tables.specs.Encode.{slot_word, header_word, structure_word, region_for, regions_word, first_for, part_word, word_for, encode, Canon, Is}

-- ── each word: an absent thing is a zero word ──
-- no region is loaded
pub regions_none : regions_word (λ r. none) ≡ 0
unfolding regions_word region_for
regions_none = no_regions_word

-- ── word o of partition p, word n of the table ──
-- it is made of p's own parts; below the slots, and the regions apart, of its parent and areas alone
module _ (t u : Table) (p o : ℕ) (parent : u.k.parent p ≡ t.k.parent p) (area : (j : ℕ) → u.k.area p j ≡ t.k.area p j) where
  pub part_ext : u.region p ≡ t.region p → ((i : ℕ) → u.k.slot p i ≡ t.k.slot p i) → ((i : ℕ) → u.opened p i ≡ t.opened p i) → part_word u p o ≡ part_word t p o
  unfolding part_word
  part_ext region slot opened = rw (region, parent, area 0, area o, slot (o - 8), opened (o - 8)) refl

  pub part_low : o < 8 → (o ≡ 5 → ⊥) → part_word u p o ≡ part_word t p o
  unfolding part_word
  part_low h n = rw (lt-ltb o 8 h, ne_eqb o 5 n, parent, area 0, area o) refl

-- two lists of words of one table are equal
pub is_one : {l m : List ℕ} {t : Table} → Is l t → Is m t → l ≡ m
is_one x y = sym x.encoded ∙ y.encoded

-- ── laws ──
pub encode_length : (t : Table) → length (encode t) ≡ 641
unfolding encode
encode_length t = length_tab 641 (word_for t)

pub encode_at : (t : Table) (n : ℕ) → n < 641 → get_or (encode t) n 0 ≡ word_for t n
unfolding encode
encode_at t n h = tab_at 641 (word_for t) n h

-- a list with these words is the table's
pub encode_is : (t : Table) (l : List ℕ) → length l ≡ 641 → ((n : ℕ) → n < 641 → get_or l n 0 ≡ word_for t n) → encode t ≡ l
unfolding encode
encode_is t l h f = sym (tab_is 641 (word_for t) l h f)

-- ── the word at each place ──
module _ (t : Table) where
  pub at_part : (p o : ℕ) → o < 40 → word_for t (1 + 40 * p + o) ≡ part_word t p o
  unfolding word_for
  at_part p o h =
      let q : (1 + 40 * p + o - 1) / 40 ≡ p = omega arith in
      let r : (1 + 40 * p + o - 1) % 40 ≡ o = omega arith in
      rw (ne_eqb (1 + 40 * p + o) 0 (λ e. omega arith), q, r) refl

  pub at_first : word_for t 0 ≡ word_of first (first_for t.k)
  unfolding word_for
  at_first = refl

  pub at_slot : (p i : ℕ) → i < 32 → word_for t (slot_place p i) ≡ slot_word (t.k.slot p i) (t.opened p i)
  unfolding part_word
  at_slot p i h =
      let n : slot_place p i ≡ 1 + 40 * p + (8 + i) = omega arith in
      let s : 8 + i - 8 ≡ i = omega arith in
      rw (n, at_part p (8 + i) (omega arith), le-ltb (8 + i) 8 (omega arith), s) refl

  pub at_header : (p : ℕ) → word_for t (area_place p 0) ≡ header_word (t.k.parent p) (t.k.area p 0)
  unfolding part_word
  at_header p = at_part p 0 (omega arith)

  pub at_structure : (p j : ℕ) → 0 < j → j < 5 → word_for t (area_place p j) ≡ structure_word (t.k.area p j)
  unfolding part_word
  at_structure p j h g =
      at_part p j (omega arith)
      ∙ rw (lt-ltb j 8 (omega arith), ne_eqb j 5 (λ e. omega arith), ne_eqb j 0 (λ e. omega arith), lt-ltb j 5 g) refl

  pub at_regions : (p : ℕ) → word_for t (regions_place p) ≡ regions_word (t.region p)
  unfolding part_word
  at_regions p =
      let n : regions_place p ≡ 1 + 40 * p + 5 = omega arith in
      rw n (at_part p 5 (omega arith))

  -- words 6 and 7 of a record
  pub at_blank : (p o : ℕ) → o < 2 → word_for t (1 + 40 * p + (6 + o)) ≡ 0
  unfolding part_word
  at_blank p o h =
      at_part p (6 + o) (omega arith)
      ∙ rw (lt-ltb (6 + o) 8 (omega arith), ne_eqb (6 + o) 5 (λ e. omega arith), ne_eqb (6 + o) 0 (λ e. omega arith), le-ltb (6 + o) 5 (omega arith)) refl

-- ── canonical lists ──
pub canon_length : {l : List ℕ} → Canon l → length l ≡ 641
canon_length {l} c = ap length (sym c.same) ∙ encode_length (view l)

pub canon_at : {l : List ℕ} → Canon l → (n : ℕ) → n < 641 → get_or l n 0 ≡ word_for (view l) n
canon_at {l} c n h = ap (λ (x : List ℕ). get_or x n 0) (sym c.same) ∙ encode_at (view l) n h

pub is_canon : {l : List ℕ} {t : Table} → Is l t → Canon l
is_canon h = record { same = ap encode h.viewed ∙ h.encoded }

pub canon_is : {l : List ℕ} → Canon l → Is l (view l)
canon_is h = record { viewed = refl; encoded = h.same }
