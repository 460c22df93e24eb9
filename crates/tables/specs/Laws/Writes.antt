-- Each kind of write: a slot, a header, a structure, a region, current, a whole record.
use Rattle.std.specs.Prelude.{◌≡◌, Bool, cond, List, get_or, set, ℕ, ◌+◌, ◌-◌, ◌*◌, ◌/◌, ◌%◌, ◌^◌, ◌<◌}
use Rattle.std.proofs.Math.Path.{refl, ap, ap₂}
use Rattle.std.proofs.Common.{sym, subst, ◌∙◌, ⊎_elim}
use Rattle.std.proofs.Math.Bool.{true, false}
use Rattle.std.proofs.Math.Dec.{eqb, ltb}
use borrow.Author.Tests.{ltb-false, lt-ltb, le-ltb, eqb-true, eqb-false, ne_eqb}
use native.Mathlib.Omega.{arith}
use Rattle.std.proofs.Math.Decide.{ℕ_discrete}
use Rattle.loops.specs.Laws.Rewrite.{each, length_tab, tab_at}
use Rattle.words.specs.Kind.{word_of}
use Rattle.words.specs.Words.{first}
use Rattle.tables.specs.State.{Opt, none, some, Entry, Area, Table}
use Rattle.tables.specs.Laws.State.{not_none}
use Rattle.tables.specs.Update.{upd, upd1}
use Rattle.tables.specs.Laws.Update.{upd_same, upd_other, upd_from, upd1_same, upd1_other, upd1_from, row_same, row_other}
use Rattle.tables.specs.View.{area_place, regions_place, slot_place}
use Rattle.tables.specs.Encode.{slot_word, header_word, structure_word, regions_word, first_for, part_word, word_for, Is}
use Rattle.tables.specs.Laws.Encode.{regions_none, is_canon}
use Rattle.tables.specs.Laws.Back.{Fit, is_from}
use Rattle.tables.specs.Laws.FitView.{fit_view}
use Rattle.tables.specs.Write.{put_slot, put_header, put_structure, put_region, put_current, clear_record}
use Rattle.tables.specs.Laws.Write.{word_at_law, put_word_law, put_part}

-- the table that words are, fits
pub is_fit : {l : List ℕ} {t : Table} → Is l t → Fit t
is_fit h = subst Fit h.viewed (fit_view (is_canon h))

-- ── a slot ──
pub record FitEntry (x : Opt Entry) (o : Bool) : Type 0 where
  pub range : (e : Entry) → x ≡ some e → (e.given < 16) × (e.start < 2 ^ 27) × (e.stop < 2 ^ 27)
  pub closed : x ≡ none → o ≡ false

module _ {l : List ℕ} {t : Table} (was : Is l t) (p i : ℕ) (x : Opt Entry) (o : Bool) (hp : p < 16) (hi : i < 32) (new : FitEntry x o) where
  fit_slot : Fit (put_slot t p i x o)
  fit_slot = let h = is_fit was in record {
    base = h.base;
    stop = h.stop;
    current = h.current;
    parent = h.parent;
    orphan = h.orphan;
    area = h.area;
    slot = λ q j e u. ⊎_elim
        (λ (z : (q ≡ p) × (j ≡ i) × (x ≡ some e)). let r = new.range e z.2 in (omega arith, omega arith, r.0, r.1, r.2))
        (λ (z : ((q ≡ p) × (j ≡ i) → ⊥) × (t.k.slot q j ≡ some e)). h.slot q j e z.1)
        (upd_from t.k.slot p i x q j u);
    closed = λ q j u. ⊎_elim
        (λ (z : (q ≡ p) × (j ≡ i) × (x ≡ none)). upd_same t.opened p i o q j (z.0, z.1) ∙ new.closed z.2)
        (λ (z : ((q ≡ p) × (j ≡ i) → ⊥) × (t.k.slot q j ≡ none)). upd_other t.opened p i o q j z.0 ∙ h.closed q j z.1)
        (upd_from t.k.slot p i x q j u);
    region = h.region;
  }

  pub slot_put : Is (set l (slot_place p i) (slot_word x o)) (put_slot t p i x o)
  unfolding part_word
  slot_put =
      let n : slot_place p i ≡ 1 + 40 * p + (8 + i) = omega arith in
      rw n (put_part was (put_slot t p i x o) fit_slot p (8 + i) (slot_word x o) hp (omega arith) here refl other)
    where
      here : part_word (put_slot t p i x o) p (8 + i) ≡ slot_word x o
      here =
          let s : 8 + i - 8 ≡ i = omega arith in
          rw (le-ltb (8 + i) 8 (omega arith), s) (ap₂ slot_word (upd_same t.k.slot p i x p i (refl, refl)) (upd_same t.opened p i o p i (refl, refl)))

      other : (q m : ℕ) → ((q ≡ p) × (m ≡ 8 + i) → ⊥) → part_word (put_slot t p i x o) q m ≡ part_word t q m
      other q m z = go (ltb m 8) refl
        where
          go : (b : Bool) → ltb m 8 ≡ b → part_word (put_slot t p i x o) q m ≡ part_word t q m
          go true u = rw u refl
          go false u =
              let y : (q ≡ p) × (m - 8 ≡ i) → ⊥ = λ w. z (omega (arith, ltb-false m 8 u, w.0, w.1)) in
              rw u (ap₂ slot_word (upd_other t.k.slot p i x q (m - 8) y) (upd_other t.opened p i o q (m - 8) y))

-- ── a header ──
module _ {l : List ℕ} {t : Table} (was : Is l t) (p u : ℕ) (x : Opt Area) (hp : p < 16) (hu : u < 16)
    (small : (a : Area) → x ≡ some a → (a.lo < 2 ^ 27) × (a.hi < 2 ^ 27)) (orphan : x ≡ none → u ≡ 0) where
  fit_header : Fit (put_header t p u x)
  fit_header = let h = is_fit was in record {
    base = h.base;
    stop = h.stop;
    current = h.current;
    parent = λ q. ⊎_elim
        (λ (z : (q ≡ p) × (u ≡ upd1 t.k.parent p u q)). omega arith)
        (λ (z : (q ≡ p → ⊥) × (t.k.parent q ≡ upd1 t.k.parent p u q)). omega (arith, h.parent q))
        (upd1_from t.k.parent p u q refl);
    orphan = λ q v. ⊎_elim
        (λ (z : (q ≡ p) × (0 ≡ 0) × (x ≡ none)). upd1_same t.k.parent p u q z.0 ∙ orphan z.2)
        (λ (z : ((q ≡ p) × (0 ≡ 0) → ⊥) × (t.k.area q 0 ≡ none)). upd1_other t.k.parent p u q (λ e. z.0 (e, refl)) ∙ h.orphan q z.1)
        (upd_from t.k.area p 0 x q 0 v);
    area = λ q j a v. ⊎_elim
        (λ (z : (q ≡ p) × (j ≡ 0) × (x ≡ some a)). let s = small a z.2 in (omega arith, omega arith, s.0, s.1))
        (λ (z : ((q ≡ p) × (j ≡ 0) → ⊥) × (t.k.area q j ≡ some a)). h.area q j a z.1)
        (upd_from t.k.area p 0 x q j v);
    slot = h.slot;
    closed = h.closed;
    region = h.region;
  }

  pub header_put : Is (set l (area_place p 0) (header_word u x)) (put_header t p u x)
  unfolding part_word
  header_put = put_part was (put_header t p u x) fit_header p 0 (header_word u x) hp (omega arith) here refl other
    where
      here : part_word (put_header t p u x) p 0 ≡ header_word u x
      here = ap₂ header_word (upd1_same t.k.parent p u p refl) (upd_same t.k.area p 0 x p 0 (refl, refl))

      other : (q m : ℕ) → ((q ≡ p) × (m ≡ 0) → ⊥) → part_word (put_header t p u x) q m ≡ part_word t q m
      other q m z = go (ltb m 8) (eqb m 5) (eqb m 0) (ltb m 5) refl refl refl refl
        where
          go : (a b c d : Bool) → ltb m 8 ≡ a → eqb m 5 ≡ b → eqb m 0 ≡ c → ltb m 5 ≡ d → part_word (put_header t p u x) q m ≡ part_word t q m
          go false b c d e f g k = rw e refl
          go true true c d e f g k = rw (e, f) refl
          go true false true d e f g k =
              let y : q ≡ p → ⊥ = λ w. z (w, eqb-true m 0 g) in
              rw (e, f, g) (ap₂ header_word (upd1_other t.k.parent p u q y) (upd_other t.k.area p 0 x q 0 (λ w. y w.0)))
          go true false false true e f g k =
              rw (e, f, g, k) (ap structure_word (upd_other t.k.area p 0 x q m (λ w. eqb-false m 0 g w.1)))
          go true false false false e f g k = rw (e, f, g, k) refl

-- ── a structure ──
module _ {l : List ℕ} {t : Table} (was : Is l t) (p j : ℕ) (x : Opt Area) (hp : p < 16) (hj : j < 4)
    (small : (a : Area) → x ≡ some a → (a.lo < 2 ^ 27) × (a.hi < 2 ^ 27)) where
  fit_structure : Fit (put_structure t p j x)
  fit_structure = let h = is_fit was in record {
    base = h.base;
    stop = h.stop;
    current = h.current;
    parent = h.parent;
    orphan = λ q v. h.orphan q (sym (upd_other t.k.area p (1 + j) x q 0 (λ w. omega (arith, w.1))) ∙ v);
    area = λ q m a v. ⊎_elim
        (λ (z : (q ≡ p) × (m ≡ 1 + j) × (x ≡ some a)). let s = small a z.2 in (omega arith, omega arith, s.0, s.1))
        (λ (z : ((q ≡ p) × (m ≡ 1 + j) → ⊥) × (t.k.area q m ≡ some a)). h.area q m a z.1)
        (upd_from t.k.area p (1 + j) x q m v);
    slot = h.slot;
    closed = h.closed;
    region = h.region;
  }

  pub structure_put : Is (set l (area_place p (1 + j)) (structure_word x)) (put_structure t p j x)
  unfolding part_word
  structure_put = put_part was (put_structure t p j x) fit_structure p (1 + j) (structure_word x) hp (omega arith) here refl other
    where
      here : part_word (put_structure t p j x) p (1 + j) ≡ structure_word x
      here =
          rw (lt-ltb (1 + j) 8 (omega arith), ne_eqb (1 + j) 5 (λ e. omega arith), ne_eqb (1 + j) 0 (λ e. omega arith), lt-ltb (1 + j) 5 (omega arith))
          (ap structure_word (upd_same t.k.area p (1 + j) x p (1 + j) (refl, refl)))

      other : (q m : ℕ) → ((q ≡ p) × (m ≡ 1 + j) → ⊥) → part_word (put_structure t p j x) q m ≡ part_word t q m
      other q m z = go (ltb m 8) (eqb m 5) (eqb m 0) (ltb m 5) refl refl refl refl
        where
          go : (a b c d : Bool) → ltb m 8 ≡ a → eqb m 5 ≡ b → eqb m 0 ≡ c → ltb m 5 ≡ d → part_word (put_structure t p j x) q m ≡ part_word t q m
          go false b c d e f g k = rw e refl
          go true true c d e f g k = rw (e, f) refl
          go true false true d e f g k =
              rw (e, f, g) (ap (header_word (t.k.parent q)) (upd_other t.k.area p (1 + j) x q 0 (λ w. omega (arith, w.1))))
          go true false false true e f g k = rw (e, f, g, k) (ap structure_word (upd_other t.k.area p (1 + j) x q m z))
          go true false false false e f g k = rw (e, f, g, k) refl

-- ── a region: the word of all eight is written ──
-- words differ only where a region below 8 does
regions_same : (f g : ℕ → Opt ℕ) → ((r : ℕ) → r < 8 → f r ≡ g r) → regions_word f ≡ regions_word g
unfolding regions_word
regions_same f g h =
    rw (h 0 (omega arith), h 1 (omega arith), h 2 (omega arith), h 3 (omega arith), h 4 (omega arith), h 5 (omega arith), h 6 (omega arith), h 7 (omega arith)) refl

module _ {l : List ℕ} {t : Table} (was : Is l t) (p r : ℕ) (x : Opt ℕ) (hp : p < 16) (hr : r < 8) (small : (i : ℕ) → x ≡ some i → i < 32) where
  fit_region : Fit (put_region t p r x)
  fit_region = let h = is_fit was in record {
    base = h.base;
    stop = h.stop;
    current = h.current;
    parent = h.parent;
    orphan = h.orphan;
    area = h.area;
    slot = h.slot;
    closed = h.closed;
    region = λ q s i v. ⊎_elim
        (λ (z : (q ≡ p) × (s ≡ r) × (x ≡ some i)). (omega arith, omega arith, small i z.2))
        (λ (z : ((q ≡ p) × (s ≡ r) → ⊥) × (t.region q s ≡ some i)). h.region q s i z.1)
        (upd_from t.region p r x q s v);
  }

  pub region_put : Is (set l (regions_place p) (regions_word (upd t.region p r x p))) (put_region t p r x)
  unfolding part_word
  region_put =
      let n : regions_place p ≡ 1 + 40 * p + 5 = omega arith in
      rw n (put_part was (put_region t p r x) fit_region p 5 (regions_word (upd t.region p r x p)) hp (omega arith) refl refl other)
    where
      other : (q m : ℕ) → ((q ≡ p) × (m ≡ 5) → ⊥) → part_word (put_region t p r x) q m ≡ part_word t q m
      other q m z = go (ltb m 8) (eqb m 5) refl refl
        where
          go : (a b : Bool) → ltb m 8 ≡ a → eqb m 5 ≡ b → part_word (put_region t p r x) q m ≡ part_word t q m
          go false b e f = rw e refl
          go true true e f =
              let y : q ≡ p → ⊥ = λ w. z (w, eqb-true m 5 f) in
              rw (e, f) (regions_same (upd t.region p r x q) (t.region q) (λ s b. upd_other t.region p r x q s (λ w. y w.0)))
          go true false e f = rw (e, f) refl

-- ── current ──
module _ {l : List ℕ} {t : Table} (was : Is l t) (c : ℕ) (hc : c < 16) where
  fit_current : Fit (put_current t c)
  fit_current = let h = is_fit was in record {
    base = h.base;
    stop = h.stop;
    current = hc;
    parent = h.parent;
    orphan = h.orphan;
    area = h.area;
    slot = h.slot;
    closed = h.closed;
    region = h.region;
  }

  pub current_put : Is (set l 0 (word_of first (first_for (put_current t c).k))) (put_current t c)
  unfolding word_for part_word
  current_put = put_word_law was (put_current t c) fit_current 0 (omega arith) other
    where
      other : (m : ℕ) → (m ≡ 0 → ⊥) → word_for (put_current t c) m ≡ word_for t m
      other m z = rw (ne_eqb m 0 z) refl

-- ── a whole record ──
-- word n, zero in the record of p
unfoldable pub cleared_word : ℕ → ℕ → ℕ → ℕ
cleared_word p n w = cond (eqb n 0) w (cond (eqb ((n - 1) / 40) p) 0 w)

-- what is there after the record of p was cleared, is not of p, and was there
kept : {A : Type 0} (f : ℕ → ℕ → Opt A) (p q j : ℕ) (a : A) → upd1 f p (λ k. none) q j ≡ some a → (q ≡ p → ⊥) × (f q j ≡ some a)
kept f p q j a u = go (ℕ_discrete q p)
  where
    go : Dec (q ≡ p) → (q ≡ p → ⊥) × (f q j ≡ some a)
    go (yes z) = not_none none refl (sym (row_same f p (λ k. none) q j z) ∙ u)
    go (no z) = (z, sym (row_other f p (λ k. none) q j z) ∙ u)

module _ (t : Table) (p q m : ℕ) where
  cleared_part : q ≡ p → 0 ≡ part_word (clear_record t p) q m
  unfolding part_word header_word structure_word slot_word
  cleared_part z = go (ltb m 8) (eqb m 5) (eqb m 0) (ltb m 5) refl refl refl refl
    where
      go : (a b c d : Bool) → ltb m 8 ≡ a → eqb m 5 ≡ b → eqb m 0 ≡ c → ltb m 5 ≡ d → 0 ≡ part_word (clear_record t p) q m
      go false b c d e f g k = rw (e, row_same t.k.slot p (λ i. none) q (m - 8) z) refl
      go true true c d e f g k = rw (e, f) (rw (upd1_same t.region p (λ r. none) q z) (sym regions_none))
      go true false true d e f g k = rw (e, f, g, row_same t.k.area p (λ j. none) q 0 z) refl
      go true false false true e f g k = rw (e, f, g, k, row_same t.k.area p (λ j. none) q m z) refl
      go true false false false e f g k = rw (e, f, g, k) refl

  other_part : (q ≡ p → ⊥) → part_word t q m ≡ part_word (clear_record t p) q m
  unfolding part_word
  other_part z =
      rw (
        row_other t.k.slot p (λ i. none) q (m - 8) z,
        row_other t.opened p (λ i. false) q (m - 8) z,
        upd1_other t.region p (λ r. none) q z,
        upd1_other t.k.parent p 0 q z,
        row_other t.k.area p (λ j. none) q 0 z,
        row_other t.k.area p (λ j. none) q m z,
      )
      refl

module _ {l : List ℕ} {t : Table} (was : Is l t) (p : ℕ) where
  fit_clear : Fit (clear_record t p)
  fit_clear = let h = is_fit was in record {
    base = h.base;
    stop = h.stop;
    current = h.current;
    parent = λ q. parents q (ℕ_discrete q p);
    orphan = λ q v. orphans q v (ℕ_discrete q p);
    area = λ q j a v. h.area q j a (kept t.k.area p q j a v).1;
    slot = λ q i e v. h.slot q i e (kept t.k.slot p q i e v).1;
    closed = λ q i v. closes q i v (ℕ_discrete q p);
    region = λ q r i v. h.region q r i (kept t.region p q r i v).1;
  }
    where
      parents : (q : ℕ) → Dec (q ≡ p) → upd1 t.k.parent p 0 q < 16
      parents q (yes z) = rw (upd1_same t.k.parent p 0 q z) (omega arith)
      parents q (no z) = rw (upd1_other t.k.parent p 0 q z) ((is_fit was).parent q)

      orphans : (q : ℕ) → upd1 t.k.area p (λ j. none) q 0 ≡ none → Dec (q ≡ p) → upd1 t.k.parent p 0 q ≡ 0
      orphans q v (yes z) = upd1_same t.k.parent p 0 q z
      orphans q v (no z) = upd1_other t.k.parent p 0 q z ∙ (is_fit was).orphan q (sym (row_other t.k.area p (λ j. none) q 0 z) ∙ v)

      closes : (q i : ℕ) → upd1 t.k.slot p (λ j. none) q i ≡ none → Dec (q ≡ p) → upd1 t.opened p (λ j. false) q i ≡ false
      closes q i v (yes z) = row_same t.opened p (λ j. false) q i z
      closes q i v (no z) = row_other t.opened p (λ j. false) q i z ∙ (is_fit was).closed q i (sym (row_other t.k.slot p (λ j. none) q i z) ∙ v)

  pub record_clear : Is (each 641 (cleared_word p) l) (clear_record t p)
  unfolding word_for cleared_word
  record_clear = is_from (each 641 (cleared_word p) l) (clear_record t p) (length_tab 641 _) fit_clear
      (λ n h. tab_at 641 (λ k. cleared_word p k (get_or l k 0)) n h ∙ ap (cleared_word p n) (word_at_law was (clear_record t p) fit_clear n h) ∙ go n (eqb n 0) (eqb ((n - 1) / 40) p) refl refl)
    where
      go : (n : ℕ) (a b : Bool) → eqb n 0 ≡ a → eqb ((n - 1) / 40) p ≡ b → cleared_word p n (word_for t n) ≡ word_for (clear_record t p) n
      go n true b u v = rw u refl
      go n false true u v = rw (u, v) (cleared_part t p ((n - 1) / 40) ((n - 1) % 40) (eqb-true ((n - 1) / 40) p v))
      go n false false u v = rw (u, v) (other_part t p ((n - 1) / 40) ((n - 1) % 40) (eqb-false ((n - 1) / 40) p v))
