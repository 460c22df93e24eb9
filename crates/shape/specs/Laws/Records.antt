-- These tests together are S3, S4 and S5 of a record; zero words pass; a walk over the word of the regions decides whether they do; and the slots of the four structures are all 32.
use Rattle.std.specs.Prelude.{◌≡◌, refl, Bool, not, ◌&&◌, List, ◌↔◌, ℕ, zero, suc, ◌+◌, ◌*◌, ◌/◌, ◌%◌, ◌<◌}
use Rattle.std.proofs.Common.{ap, sym, subst, ◌∙◌, eqb-true, eq-eqb}
use Rattle.std.proofs.Math.Bool.{true, false, cond}
use Rattle.std.proofs.lemmas.Bool.{false≢true}
use native.Mathlib.Omega.{arith}
use Rattle.std.proofs.Math.Dec.{eqb}
use Rattle.loops.specs.Loops.{all}
use Rattle.loops.specs.Laws.Every.{Passing, bool_ext, all_at, all_of, all_ext}
use Rattle.loops.specs.Laws.Scan.{seek_start, seek_hit, seek_on, seek_end}
use Rattle.words.specs.Kind.{fields_in, zeroed}
use Rattle.words.specs.Words.{header, structure, regions}
use Rattle.words.specs.declared.regions_word.Region.{Region}
use Rattle.words.specs.Later.{later_regions}
use Rattle.tables.specs.State.{K}
use Rattle.tables.specs.View.{area_word_at, slot_word_at, nth_region, view, regions_word_at, regions_at}
use Rattle.tables.specs.Search.{is_some}
use Rattle.tables.specs.Laws.ZeroWord.{no_entry, blank_regions}
use Rattle.tables.specs.Laws.Walk.{WalkingRegions, walk_start, walk_in, walk_at, walk_on, walk_end}
use Rattle.tables.specs.ZeroRecord.{zero_blanks}
use Rattle.sound.specs.Clauses.{blank_region, s3_regions, s3, s4_area, s4_absent, s4, s5_slot, s5}
use Rattle.sound.specs.Laws.Tests.{and_says, and_true}
use Rattle.shape.specs.Records.{header_test, structure_test, slots_test, HasStructure}
use Rattle.words.specs.Laws.Kind.{zeroed_means, zero_zeroed}

-- ── tests ──
unfoldable pub record_test : List ℕ → K → ℕ → Bool
record_test l k p = header_test l k p && all 4 (structure_test l k p) && s3_regions l p && zero_blanks l p && all 32 (s5_slot l k p)

-- ── they are S3, S4 and S5 ──
-- a test of the header's area, and of that of each structure, is one of all five
pub each_area : (f : ℕ → Bool) → f 0 ≡ true → ((j : ℕ) → j < 4 → f (1 + j) ≡ true) → (j : ℕ) → j < 5 → f j ≡ true
each_area f h s zero b = h
each_area f h s (suc j) b = let q : 1 + j ≡ suc j = omega arith in rw q at (s j (omega arith))

module _ (l : List ℕ) (k : K) (p : ℕ) where
  -- what both ask
  record Asked : Type 0 where
    header : zeroed header (area_word_at l p 0) ≡ true
    structure : (j : ℕ) → j < 4 → zeroed structure (area_word_at l p (1 + j)) ≡ true
    regions : s3_regions l p ≡ true
    blank : zero_blanks l p ≡ true
    area : (j : ℕ) → j < 5 → s4_area k p j ≡ true
    absent : (j : ℕ) → j < 4 → s4_absent l k p j ≡ true
    entry : (i : ℕ) → i < 32 → s5_slot l k p i ≡ true

  clauses_ask : (s3 l p && s4 l k p && s5 l k p ≡ true) ↔ Asked
  unfolding s3 s4 s5
  clauses_ask = (
    λ q.
        let (ab, c) = and_says _ _ q in
        let (a, b) = and_says _ _ ab in
        let (x, y) = and_says _ _ b in
        let (hsr, z) = and_says _ _ a in
        let (hs, r) = and_says _ _ hsr in
        let (h, s) = and_says _ _ hs in
        record { header = h; structure = all_at 4 _ s; regions = r; blank = z; area = all_at 5 _ x; absent = all_at 4 _ y; entry = all_at 32 _ c },
    λ h.
        and_true _ _
        (and_true _ _
        (and_true _ _ (and_true _ _ (and_true _ _ h.header (all_of 4 _ h.structure)) h.regions) h.blank)
        (and_true _ _ (all_of 5 _ h.area) (all_of 4 _ h.absent)))
        (all_of 32 _ h.entry),
  )

  structure_asks : (j : ℕ) → structure_test l k p j ≡ true → (zeroed structure (area_word_at l p (1 + j)) ≡ true) × (s4_area k p (1 + j) ≡ true) × (s4_absent l k p j ≡ true)
  unfolding structure_test
  structure_asks j q = let (xy, z) = and_says _ _ q in let (x, y) = and_says _ _ xy in (x, y, z)

  tests_ask : (record_test l k p ≡ true) ↔ Asked
  unfolding record_test header_test structure_test
  tests_ask = (
    λ q.
        let (hsrb, e) = and_says _ _ q in
        let (hsr, b) = and_says _ _ hsrb in
        let (hs, r) = and_says _ _ hsr in
        let (h, s) = and_says _ _ hs in
        let head = and_says _ _ h in
        let structures = all_at 4 (structure_test l k p) s in
        record {
          header = head.0;
          structure = λ j b. (structure_asks j (structures j b)).0;
          regions = r;
          blank = b;
          area = each_area (s4_area k p) head.1 (λ j b. (structure_asks j (structures j b)).1);
          absent = λ j b. (structure_asks j (structures j b)).2;
          entry = all_at 32 (s5_slot l k p) e;
        },
    λ h.
        and_true _ _
        (and_true _ _
        (and_true _ _
        (and_true _ _
        (and_true _ _ h.header (h.area 0 (omega arith)))
        (all_of 4 (structure_test l k p) (λ j b. and_true _ _ (and_true _ _ (h.structure j b) (h.area (1 + j) (omega arith))) (h.absent j b))))
        h.regions)
        h.blank)
        (all_of 32 (s5_slot l k p) h.entry),
  )

  pub record_is : record_test l k p ≡ s3 l p && s4 l k p && s5 l k p
  record_is = bool_ext _ _ (λ q. clauses_ask.1 (tests_ask.0 q)) (λ q. tests_ask.1 (clauses_ask.0 q))

-- ── a zero word passes ──
-- as regions: none is loaded
pub regions_empty : (l : List ℕ) (p : ℕ) → regions_word_at l p ≡ 0 → s3_regions l p ≡ true
unfolding s3_regions blank_region
regions_empty l p q =
    and_true _ _ ((zeroed_means regions (regions_word_at l p)).1 (rw q (zero_zeroed regions)))
    (all_of 8 (λ r. blank_region (nth_region (regions_at l p) r)) (λ r h. rw (blank_regions l p q r h) refl))

-- as a slot
pub slot_empty : (l : List ℕ) (p i : ℕ) → slot_word_at l p i ≡ 0 → s5_slot l (view l).k p i ≡ true
unfolding s5_slot
slot_empty l p i q = rw (no_entry l p i (λ _ _. q)) (eq-eqb _ 0 q)

-- ── the regions of a word, of which w is left: those before are blank ──
pub record BlankTo (v w : ℕ) : Type 0 where
  pub walk : WalkingRegions (Passing (λ r. blank_region (nth_region (fields_in regions v) r)) 8) v w

pub blank_start : {v : ℕ} → BlankTo v v
blank_start = record { walk = walk_start seek_start }

module _ {v w : ℕ} (k : BlankTo v w) where
  module _ {x : Region} (h : 0 < w) (e : x ≡ (fields_in regions w).region0) where
    at : blank_region x ≡ blank_region (nth_region (fields_in regions v) k.walk.at)
    at = ap blank_region (e ∙ walk_at k.walk h)

    pub blank_fails : blank_region x ≡ false → false ≡ all 8 (λ r. blank_region (nth_region (fields_in regions v) r))
    blank_fails q = seek_hit k.walk.kept (walk_in k.walk h) (ap not (sym at ∙ q))

    pub blank_on : {u : ℕ} → blank_region x ≡ true → u ≡ later_regions w → BlankTo v u
    blank_on q z = record { walk = subst (WalkingRegions _ v) (sym z) (walk_on k.walk h (seek_on k.walk.kept (walk_in k.walk h) (ap not (sym at ∙ q)))) }

  pub blank_end : w ≡ 0 → true ≡ all 8 (λ r. blank_region (nth_region (fields_in regions v) r))
  unfolding blank_region
  blank_end z = seek_end (walk_end k.walk z (λ r h q inv. seek_on inv h (rw q refl))) (omega arith)

-- ── slots by structure ──
-- all 32
pub slots_each : (l : List ℕ) (k : K) (p : ℕ) → all 4 (slots_test l k p) ≡ all 32 (s5_slot l k p)
unfolding slots_test
slots_each l k p =
    bool_ext _ _
    (λ q. all_of 32 (s5_slot l k p) (λ i b.
    let h : i / 8 < 4 = omega arith in
    let g : i % 8 < 8 = omega arith in
    let z : 8 * (i / 8) + i % 8 ≡ i = omega arith in
    rw z at (all_at 8 (λ o. s5_slot l k p (8 * (i / 8) + o)) (all_at 4 (slots_test l k p) q (i / 8) h) (i % 8) g)))
    (λ q. all_of 4 (slots_test l k p) (λ j b. all_of 8 _ (λ o c. all_at 32 (s5_slot l k p) q (8 * j + o) (omega arith))))

-- slot o of the eight is one of structure j
pub eight_in : {l : List ℕ} {p j o : ℕ} → HasStructure l p j → o < 8 → HasStructure l p ((8 * j + o) / 8)
eight_in {j = j} {o} h b = let z : (8 * j + o) / 8 ≡ j = omega arith in record { there = rw z h.there }

module _ (l : List ℕ) (p : ℕ) where
  -- where its structure is absent, a slot is a zero word
  slot_absent : (i : ℕ) → is_some ((view l).k.area p (1 + i / 8)) ≡ false → eqb (slot_word_at l p i) 0 ≡ s5_slot l (view l).k p i
  unfolding s5_slot
  slot_absent i n = bool_ext _ _ (λ q. slot_empty l p i (eqb-true _ 0 q)) (λ q. go (is_some ((view l).k.slot p i)) (rw n at q))
    where
      go : (b : Bool) → cond b false (eqb (slot_word_at l p i) 0) ≡ true → eqb (slot_word_at l p i) 0 ≡ true
      go true q = absurd (false≢true q)
      go false q = q

  pub slots_absent : (j : ℕ) → is_some ((view l).k.area p (1 + j)) ≡ false → all 8 (λ o. eqb (slot_word_at l p (8 * j + o)) 0) ≡ slots_test l (view l).k p j
  unfolding slots_test
  slots_absent j n = all_ext 8 _ _ (λ o b. let z : (8 * j + o) / 8 ≡ j = omega arith in slot_absent (8 * j + o) (rw z n))
