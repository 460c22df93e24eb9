-- Words are canonical where zero bits are zero, regions that are not loaded are zero bytes, and what is absent is a zero word; and canonical words are so.
use Rattle.std.specs.Prelude.{◌≡◌, Bool, true, false, cond, List, [], ◌∷◌, ℕ, ◌+◌, ◌^◌, ◌<◌, get_or}
use Rattle.std.proofs.Math.Path.{refl, sym}
use Rattle.std.proofs.Common.{ap, ◌∙◌, true≢false, arith}
use Rattle.std.proofs.Math.Decide.{ℕ_discrete}
use Rattle.std.proofs.Math.ListN.{get_or-map}
use Rattle.words.specs.Kind.{Kind, fields_in, word_of, Lawful, Zeroed}
use Rattle.words.specs.Laws.Kind.{zero_zeroed, word_back, word_zeroed}
use Rattle.words.specs.Laws.Fields.{slot_zeroed}
use Rattle.words.specs.Words.{first, header, structure, regions}
use Rattle.words.specs.Laws.Kinds.{first_range, header_range, structure_range, first_lawful, header_lawful, structure_lawful, regions_lawful, slot_lawful}
use Rattle.words.specs.declared.header_word.HeaderFields.{HeaderFields}
use Rattle.words.specs.declared.regions_word.Region.{Region}
use Rattle.words.specs.declared.slot_word.SlotFields.{SlotFields}
use Rattle.words.specs.declared.structure_word.StructureFields.{StructureFields}
use Rattle.tables.specs.State.{Opt, none, some, Area, Table}
use Rattle.tables.specs.View.{first_word, area_word_at, regions_word_at, blank_word_at, slot_word_at, entry_in, header_area, structure_area, nth_region, named, slot_at, header_at, structure_at, regions_at, view_k, view}
use Rattle.tables.specs.Encode.{slot_word, header_for, header_word, structure_for, structure_word, region_for, regions_for, regions_word, first_for, Canon}
use Rattle.tables.specs.Laws.Encode.{regions_none}
use Rattle.tables.specs.Laws.Spelling.{Spells, canon_spells, zero_words}
use Rattle.tables.specs.Spelling.{ZeroWords}
use Rattle.tables.specs.Laws.Back.{Fit, regions_fit, regions_back}
use Rattle.tables.specs.Laws.FitView.{zero_slot, zero_header, zero_structure, fit_view}
use Rattle.tables.specs.Fitting.{Words}
use Rattle.tables.specs.Seen.{SeenHeader, SeenStructure, Seen}
use Rattle.tables.specs.Laws.Seen.{see_header, see_structure, see_regions, see}

-- a word with its zero bits zero is the one written for its fields
written : {A : Type 0} {k : Kind A} → Lawful k → (w : ℕ) → w < 2 ^ 64 → Zeroed k w → {g : A} → fields_in k w ≡ g → w ≡ word_of k g
written {k = k} law w small z e = sym (word_back law w small z) ∙ ap (word_of k) e

-- a region that names slot 0 unless it is loaded is written as it was read
region_kept : (x : Region) → (x.loaded ≡ false → x.slot.0 ≡ 0) → region_for (named x) ≡ x
unfolding named region_for
region_kept x h = go x.loaded refl
  where
    go : (b : Bool) → x.loaded ≡ b → region_for (cond b (some x.slot.0) none) ≡ x
    go true q = λ i. record { loaded = sym q i; slot = x.slot }
    go false q = λ i. record { loaded = sym q i; slot = record { 0 = sym (h q) i } }

-- ── such a word is the one of the table that it is seen in ──
module _ {l : List ℕ} (fits : Words l) where
  pub first_kept : Zeroed first (first_word l) → first_word l ≡ word_of first (first_for (view l).k)
  unfolding first_word view view_k
  first_kept z = written first_lawful (first_word l) (fits.small 0) z refl

  module _ (p : ℕ) (hp : p < 16) where
    pub header_kept : Zeroed header (area_word_at l p 0) → ((view l).k.area p 0 ≡ none → area_word_at l p 0 ≡ 0)
        → area_word_at l p 0 ≡ header_word ((view l).k.parent p) ((view l).k.area p 0)
    unfolding area_word_at header_word header_area
    header_kept z absent = go f.present refl
      where
        f : HeaderFields
        f = header_at l p

        seen : SeenHeader l p f
        seen = see_header l p f hp refl

        go : (b : Bool) → f.present ≡ b → area_word_at l p 0 ≡ header_word ((view l).k.parent p) ((view l).k.area p 0)
        go true q =
            rw (seen.parent, seen.area, q)
            (written header_lawful (area_word_at l p 0) (fits.small _) z (λ i. record { present = q i; parent = f.parent; start = f.start; end = f.end }))
        go false q = let n : (view l).k.area p 0 ≡ none = rw (seen.area, q) refl in rw n (absent n)

    pub structure_kept : (j : ℕ) → j < 4 → Zeroed structure (area_word_at l p (1 + j)) → ((view l).k.area p (1 + j) ≡ none → area_word_at l p (1 + j) ≡ 0)
        → area_word_at l p (1 + j) ≡ structure_word ((view l).k.area p (1 + j))
    unfolding area_word_at structure_word structure_area
    structure_kept j hj z absent = go f.present refl
      where
        f : StructureFields
        f = structure_at l p j

        seen : SeenStructure l p j f
        seen = see_structure l p j f hp hj refl

        go : (b : Bool) → f.present ≡ b → area_word_at l p (1 + j) ≡ structure_word ((view l).k.area p (1 + j))
        go true q =
            rw (seen.area, q)
            (written structure_lawful (area_word_at l p (1 + j)) (fits.small _) z (λ i. record { present = q i; start = f.start; end = f.end }))
        go false q = let n : (view l).k.area p (1 + j) ≡ none = rw (seen.area, q) refl in rw n (absent n)

    pub slot_kept : (i : ℕ) → i < 32 → ((view l).k.slot p i ≡ none → slot_word_at l p i ≡ 0)
        → slot_word_at l p i ≡ slot_word ((view l).k.slot p i) ((view l).opened p i)
    unfolding slot_word_at slot_word entry_in
    slot_kept i hi absent = go f.present refl
      where
        f : SlotFields
        f = slot_at l p i

        seen : Seen l p i f
        seen = see l p i f hp hi refl

        go : (b : Bool) → f.present ≡ b → slot_word_at l p i ≡ slot_word ((view l).k.slot p i) ((view l).opened p i)
        go true q =
            rw (seen.slot, seen.opened, q)
            (written slot_lawful (slot_word_at l p i) (fits.small _) (slot_zeroed (slot_word_at l p i))
            (λ x. record { present = q x; opened = f.opened; rights = f.rights; given = f.given; start = f.start; end = f.end; whole = f.whole }))
        go false q = let n : (view l).k.slot p i ≡ none = rw (seen.slot, q) refl in rw n (absent n)

    pub regions_kept : Zeroed regions (regions_word_at l p) → ((r : ℕ) → r < 8 → (nth_region (regions_at l p) r).loaded ≡ false → (nth_region (regions_at l p) r).slot.0 ≡ 0)
        → regions_word_at l p ≡ regions_word ((view l).region p)
    unfolding regions_word_at regions_word nth_region
    regions_kept z unloaded =
        written regions_lawful (regions_word_at l p) (fits.small _) z
        (λ i. record {
          region0 = at 0 (omega arith) i;
          region1 = at 1 (omega arith) i;
          region2 = at 2 (omega arith) i;
          region3 = at 3 (omega arith) i;
          region4 = at 4 (omega arith) i;
          region5 = at 5 (omega arith) i;
          region6 = at 6 (omega arith) i;
          region7 = at 7 (omega arith) i;
        })
      where
        at : (r : ℕ) → r < 8 → nth_region (regions_at l p) r ≡ region_for ((view l).region p r)
        at r h = sym (ap region_for ((see_regions l p (regions_at l p) hp refl).region r h) ∙ region_kept (nth_region (regions_at l p) r) (unloaded r h))

-- ── the words of a table that fits have their zero bits zero (a slot has none) ──
module _ {t : Table} (h : Fit t) where
  header_zeroed : (p : ℕ) → Zeroed header (header_word (t.k.parent p) (t.k.area p 0))
  unfolding header_word
  header_zeroed p = go (t.k.area p 0) refl
    where
      go : (x : Opt Area) → t.k.area p 0 ≡ x → Zeroed header (header_word (t.k.parent p) x)
      go none q = zero_zeroed header
      go (some a) q =
          let f = header_for (t.k.parent p) a in
          let b = h.area p 0 a q in
          word_zeroed header_lawful f (header_range f (h.parent p) b.2 b.3)

  structure_zeroed : (p j : ℕ) → Zeroed structure (structure_word (t.k.area p j))
  unfolding structure_word
  structure_zeroed p j = go (t.k.area p j) refl
    where
      go : (x : Opt Area) → t.k.area p j ≡ x → Zeroed structure (structure_word x)
      go none q = zero_zeroed structure
      go (some a) q = let b = h.area p j a q in word_zeroed structure_lawful (structure_for a) (structure_range (structure_for a) b.2 b.3)

-- a region that is written and not loaded names slot 0
regions_unloaded : (f : ℕ → Opt ℕ) (r : ℕ) → (nth_region (regions_for f) r).loaded ≡ false → (nth_region (regions_for f) r).slot.0 ≡ 0
unfolding nth_region region_for
regions_unloaded f r = rw (get_or-map region_for eight r none) (go (get_or eight r none))
  where
    eight : List (Opt ℕ)
    eight = f 0 ∷ f 1 ∷ f 2 ∷ f 3 ∷ f 4 ∷ f 5 ∷ f 6 ∷ f 7 ∷ []

    go : (x : Opt ℕ) → (region_for x).loaded ≡ false → (region_for x).slot.0 ≡ 0
    go none q = refl
    go (some i) q = absurd (true≢false q)

-- nothing of partition p is there
pub record Nothing (t : Table) (p : ℕ) : Type 0 where
  pub area : (j : ℕ) → t.k.area p j ≡ none
  pub slot : (i : ℕ) → t.k.slot p i ≡ none
  pub region : (r : ℕ) → t.region p r ≡ none

-- ── of canonical words ──
module _ {l : List ℕ} (c : Canon l) where
  spelt : Spells l (view l)
  spelt = canon_spells c

  pub first_clean : Zeroed first (first_word l)
  first_clean =
      let h = fit_view c in
      let f = first_for (view l).k in
      rw spelt.first (word_zeroed first_lawful f (first_range f h.base h.stop h.current))

  module _ (p : ℕ) (hp : p < 16) where
    pub header_clean : Zeroed header (area_word_at l p 0)
    header_clean = rw (spelt.at p hp).header (header_zeroed (fit_view c) p)

    pub structure_clean : (j : ℕ) → j < 4 → Zeroed structure (area_word_at l p (1 + j))
    structure_clean j hj = rw ((spelt.at p hp).structure (1 + j) (omega arith) (omega arith)) (structure_zeroed (fit_view c) p (1 + j))

    names : (r i : ℕ) → (view l).region p r ≡ some i → i < 32
    names r i u = ((fit_view c).region p r i u).2

    pub regions_clean : Zeroed regions (regions_word_at l p)
    unfolding regions_word
    regions_clean = rw (spelt.at p hp).regions (word_zeroed regions_lawful (regions_for ((view l).region p)) (regions_fit ((view l).region p) names))

    pub unloaded_blank : (r : ℕ) → (nth_region (regions_at l p) r).loaded ≡ false → (nth_region (regions_at l p) r).slot.0 ≡ 0
    unloaded_blank r = rw (ap (fields_in regions) (spelt.at p hp).regions ∙ regions_back ((view l).region p) names) (regions_unloaded ((view l).region p) r)

    pub blank_clean : (o : ℕ) → o < 2 → blank_word_at l p o ≡ 0
    blank_clean = (spelt.at p hp).blank

    pub nothing_zero : Nothing (view l) p → ZeroWords l p
    nothing_zero n =
        zero_words l p
        (λ j b. area j b (ℕ_discrete j 0))
        ((spelt.at p hp).regions ∙ ap regions_word (λ x r. n.region r x) ∙ regions_none)
        blank_clean
        (λ i b. zero_slot c p i hp b (n.slot i))
      where
        area : (j : ℕ) → j < 5 → Dec (j ≡ 0) → area_word_at l p j ≡ 0
        area j b (yes z) = rw z (zero_header c p hp (n.area 0))
        area j b (no z) = zero_structure c p j hp (omega arith) b (n.area j)
