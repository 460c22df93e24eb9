-- S1 to S5: each test is true exactly where its clause holds.
use Rattle.std.specs.Prelude.{◌≡◌, Bool, true, false, ◌||◌, List, ◌↔◌, ℕ, zero, suc, ◌+◌, ◌/◌, ◌≤◌, ◌<◌, eqb}
use Rattle.std.proofs.Math.Path.{refl}
use Rattle.std.proofs.Common.{ap, sym, ◌∙◌, arith, eqb-true, eq-eqb}
use Rattle.std.proofs.lemmas.Bool.{false≢true}
use Rattle.std.proofs.Math.Decide.{ℕ_discrete}
use Rattle.loops.specs.Loops.{Reaches, at_root}
use Rattle.loops.specs.Laws.Climb.{reaches_iff}
use Rattle.words.specs.Kind.{zeroed, Zeroed}
use Rattle.words.specs.Laws.Kind.{zeroed_means}
use Rattle.words.specs.Words.{first, header, structure, regions}
use Rattle.words.specs.declared.regions_word.Region.{Region}
use Rattle.tables.specs.State.{Opt, none, some, Entry, Area, nowhere, K}
use Rattle.tables.specs.Laws.State.{not_none, never_some, some_inj, same_a}
use Rattle.tables.specs.View.{first_word, area_word_at, regions_word_at, slot_word_at, nth_region, regions_at, view}
use Rattle.tables.specs.Laws.View.{slot_bounds, area_bounds}
use Rattle.tables.specs.Search.{is_some, present}
use Rattle.sound.specs.Sound.{Present, Rooted, S1, S2, S3, S4, S5}
use Rattle.tables.specs.Spelling.{ZeroWords}
use Rattle.tables.specs.Laws.ZeroRecord.{zero_record_means, zero_blanks_mean}
use Rattle.sound.specs.Clauses.{is_nowhere, long, s1, s2_root, s2_other, s2, blank_region, s3_regions, s3_first, s3, s4_area, s4_absent, s4, s5_slot, s5}
use Rattle.sound.proofs.Laws.MeansEntries.{is_some_means}
use Rattle.sound.proofs.Laws.MeansAreas.{rooted_means}
use Rattle.sound.specs.Laws.Means.{eq_means, lt_means, le_means, and_means, not_means, if_means, all_means, when_means, has_means}

-- ── words used below ──
is_nowhere_law : (a : Area) → (is_nowhere a ≡ true) ↔ (a ≡ nowhere)
unfolding is_nowhere
is_nowhere_law a =
    let m = and_means (eq_means a.lo 0) (eq_means a.hi 0) in
    (λ q. let z = m.0 q in λ i. record { lo = z.0 i; hi = z.1 i }, λ e. m.1 ((same_a e).lo, (same_a e).hi))

-- ── S1 ──
pub s1_means : (l : List ℕ) → (s1 (view l).k ≡ true) ↔ S1 (view l).k
unfolding s1 present
s1_means l =
    let k = (view l).k in
    let m = and_means (lt_means k.base k.stop) (is_some_means (k.area k.current 0)) in
    (λ q. let h = m.0 q in record { range = h.0; current = h.1 }, λ h. m.1 (h.range, h.current))

-- ── S2 ──
module _ (l : List ℕ) (k : K) (p : ℕ) where
  -- what the test of S2 asks: of the root, of another that is present, of all
  abbrev S2Root : Type 0
  S2Root = ((a : Area) × (k.area p 0 ≡ some a) × (a ≡ nowhere)) × (k.parent p ≡ 0)

  abbrev S2Other : Type 0
  S2Other = (Present k (k.parent p) × ((a : Area) → k.area p 0 ≡ some a → a ≡ nowhere → ⊥)) × Reaches k.parent 15 p

  abbrev S2Is : Type 0
  S2Is = (p ≡ 0 → S2Root) × ((p ≡ 0 → ⊥) → (Present k p → S2Other) × ((Present k p → ⊥) → ZeroWords l p))

  s2_test : (s2 l k p ≡ true) ↔ S2Is
  unfolding s2 s2_root s2_other present
  s2_test =
      if_means (eq_means p 0)
      (and_means (has_means (k.area p 0) is_nowhere_law) (eq_means (k.parent p) 0))
      (if_means (is_some_means (k.area p 0))
      (and_means
      (and_means (is_some_means (k.area (k.parent p) 0)) (when_means (k.area p 0) (λ a. not_means (is_nowhere_law a))))
      (reaches_iff k.parent 15 p))
      (zero_record_means l p))

  s2_to : S2Is → Dec (p ≡ 0) → S2 l k p
  s2_to q (yes z) =
      let ((a, u, v), w) = q.0 z in
      record {
        absent = λ n. not_none (k.area p 0) n u;
        root = λ _. (u ∙ ap some v, w);
        parent = λ n. absurd (n z);
        area = λ n. absurd (n z);
        walk = λ _. at_root z;
      }
  s2_to q (no z) =
      let (there, gone) = q.1 z in
      record {
        absent = λ n. gone (λ h. not_none (k.area p 0) n h.1);
        root = λ e. absurd (z e);
        parent = λ _ h. (there h).0.0;
        area = λ _ e. (there (nowhere, e)).0.1 nowhere e refl;
        walk = λ h. (there h).1;
      }

  s2_back : S2 l k p → S2Is
  s2_back h = (
    λ z. ((nowhere, (h.root z).0, refl), (h.root z).1),
    λ z. (
      λ u. ((h.parent z u, λ a v e. h.area z (v ∙ ap some e)), h.walk u),
      λ n. h.absent (never_some (k.area p 0) (λ a u. n (a, u))),
    ),
  )

pub s2_means : (l : List ℕ) (p : ℕ) → p < 16 → (s2 l (view l).k p ≡ true) ↔ S2 l (view l).k p
s2_means l p _ =
    let k = (view l).k in
    (λ q. s2_to l k p ((s2_test l k p).0 q) (ℕ_discrete p 0), λ h. (s2_test l k p).1 (s2_back l k p h))

-- ── S3 ──
blank_region_law : (r : Region) → (blank_region r ≡ true) ↔ (r.loaded ≡ false → r.slot.0 ≡ 0)
unfolding blank_region
blank_region_law r = go r.loaded
  where
    go : (b : Bool) → (b || eqb r.slot.0 0 ≡ true) ↔ (b ≡ false → r.slot.0 ≡ 0)
    go true = (λ _ e. absurd (false≢true (sym e)), λ _. refl)
    go false = (λ q _. eqb-true _ 0 q, λ h. eq-eqb _ 0 (h refl))

regions_mean : (l : List ℕ) (p : ℕ) → (s3_regions l p ≡ true)
    ↔ (Zeroed regions (regions_word_at l p) × ((r : ℕ) → r < 8 → (nth_region (regions_at l p) r).loaded ≡ false → (nth_region (regions_at l p) r).slot.0 ≡ 0))
unfolding s3_regions
regions_mean l p =
    and_means (zeroed_means regions (regions_word_at l p)) (all_means 8 (λ r. blank_region (nth_region (regions_at l p) r)) (λ r b. blank_region_law (nth_region (regions_at l p) r)))

pub s3_first_means : (l : List ℕ) → (s3_first l ≡ true) ↔ Zeroed first (first_word l)
unfolding s3_first
s3_first_means l = zeroed_means first (first_word l)

pub s3_means : (l : List ℕ) (p : ℕ) → (s3 l p ≡ true) ↔ S3 l p
unfolding s3
s3_means l p =
    let m =
    and_means
    (and_means
    (and_means
    (zeroed_means header (area_word_at l p 0))
    (all_means 4 (λ j. zeroed structure (area_word_at l p (1 + j))) (λ j b. zeroed_means structure (area_word_at l p (1 + j)))))
    (regions_mean l p))
    (zero_blanks_mean l p) in (
      λ q.
          let (((h, s), r), b) = m.0 q in
          record { header_bits = h; structure_bits = s; region_bits = r.0; unloaded = r.1; blank = b },
      λ h. m.1 (((h.header_bits, h.structure_bits), (h.region_bits, h.unloaded)), h.blank),
    )

-- ── S4 ──
module _ (l : List ℕ) (k : K) (p : ℕ) where
  -- what the tests of S4 ask of area j, and of structure j where it is absent
  abbrev AreaIs : ℕ → Type 0
  AreaIs j = (a : Area) → k.area p j ≡ some a → (Rooted p j → a ≡ nowhere) × ((Rooted p j → ⊥) → a.lo + 16 ≤ a.hi)

  abbrev AbsentIs : ℕ → Type 0
  AbsentIs j = k.area p (1 + j) ≡ none → (area_word_at l p (1 + j) ≡ 0) × (Rooted p (1 + j) → ⊥)

  s4_area_law : (j : ℕ) → (s4_area k p j ≡ true) ↔ AreaIs j
  unfolding s4_area long
  s4_area_law j = when_means (k.area p j) (λ a. if_means (rooted_means p j) (is_nowhere_law a) (le_means (a.lo + 16) a.hi))

  s4_absent_law : (j : ℕ) → (s4_absent l k p j ≡ true) ↔ AbsentIs j
  unfolding s4_absent
  s4_absent_law j = go (k.area p (1 + j)) (and_means (eq_means _ 0) (not_means (rooted_means p (1 + j))))
    where
      go : {b : Bool} {B : Type 0} (o : Opt Area) → (b ≡ true) ↔ B → (is_some o || b ≡ true) ↔ (o ≡ none → B)
      go none f = (λ q _. f.0 q, λ h. f.1 (h refl))
      go (some a) f = (λ _ n. not_none (some a) n refl, λ _. refl)

  s4_test : (s4 l k p ≡ true) ↔ (((j : ℕ) → j < 5 → AreaIs j) × ((j : ℕ) → j < 4 → AbsentIs j))
  unfolding s4
  s4_test = and_means (all_means 5 (s4_area k p) (λ j b. s4_area_law j)) (all_means 4 (s4_absent l k p) (λ j b. s4_absent_law j))

-- given S2: the test asks again that the root's header has area 0, 0
pub s4_means : (l : List ℕ) → ((q : ℕ) → q < 16 → S2 l (view l).k q) → (p : ℕ) → p < 16 → (s4 l (view l).k p ≡ true) ↔ S4 l (view l).k p
s4_means l h p hp = (
  λ q.
      let (area, word) = (s4_test l k p).0 q in
      record {
        absent = λ j b n. (word j b n).0;
        root = λ z. there (k.area p 1) (λ a u. (area 1 (omega arith) a u).0 (z, omega arith)) (λ n. (word 0 (omega arith) n).1 (z, omega arith));
        long = λ j a u r. (area j (area_bounds l p j a u).1 a u).1 r;
      },
  λ s.
      (s4_test l k p).1 (
        λ j b a u. (λ r. some_inj (sym u ∙ root s j r), s.long j a u),
        λ j b n. (s.absent j b n, λ r. not_none (k.area p (1 + j)) n (root s (1 + j) r)),
      ),
)
  where
    k : K
    k = (view l).k

    there : (o : Opt Area) → ((a : Area) → o ≡ some a → a ≡ nowhere) → (o ≡ none → ⊥) → o ≡ some nowhere
    there none f g = absurd (g refl)
    there (some a) f g = ap some (f a refl)

    root : S4 l k p → (j : ℕ) → Rooted p j → k.area p j ≡ some nowhere
    root s zero r = ((h p hp).root r.0).0
    root s (suc zero) r = s.root r.0
    root s (suc (suc j)) r = absurd (omega (arith, r.1))

-- ── S5 ──
module _ (l : List ℕ) (k : K) (p : ℕ) where
  -- slot i holds an entry
  abbrev Held : ℕ → Type 0
  Held i = (e : Entry) × (k.slot p i ≡ some e)

  -- what the test of S5 asks of slot i
  abbrev SlotIs : ℕ → Type 0
  SlotIs i =
      (Held i → ((a : Area) × (k.area p (1 + i / 8) ≡ some a)) × ((e : Entry) → k.slot p i ≡ some e → e.start < e.stop))
      × ((Held i → ⊥) → slot_word_at l p i ≡ 0)

  s5_test : (s5 l k p ≡ true) ↔ ((i : ℕ) → i < 32 → SlotIs i)
  unfolding s5 s5_slot
  s5_test =
      all_means 32 (s5_slot l k p)
      (λ i b.
      if_means (is_some_means (k.slot p i))
      (and_means (is_some_means (k.area p (1 + i / 8))) (when_means (k.slot p i) (λ e. lt_means e.start e.stop)))
      (eq_means _ 0))

pub s5_means : (l : List ℕ) (p : ℕ) → p < 16 → (s5 l (view l).k p ≡ true) ↔ S5 l (view l).k p
s5_means l p _ =
    let k = (view l).k in (
      λ q.
          let at = (s5_test l k p).0 q in
          record {
            structure = λ i e u. ((at i (slot_bounds l p i e u).1).0 (e, u)).0;
            range = λ i e u. ((at i (slot_bounds l p i e u).1).0 (e, u)).1 e u;
            other = λ i b n. (at i b).1 (λ h. not_none (k.slot p i) n h.1);
          },
      λ h. (s5_test l k p).1 (λ i b. (λ u. (h.structure i u.0 u.1, h.range i), λ n. h.other i b (never_some (k.slot p i) (λ e u. n (e, u))))),
    )
