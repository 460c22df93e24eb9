-- What is kept of a region; and with the word of all eight written anew the words are the table with those that are kept.
use Rattle.std.specs.Prelude.{◌≡◌, Bool, cond, List, ℕ, ◌+◌, ◌*◌, ◌<◌, set, Result}
use Rattle.std.proofs.Math.Path.{refl}
use Rattle.std.proofs.Common.{ap, sym, ◌∙◌}
use Rattle.std.proofs.Math.Bool.{true, false}
use Rattle.std.proofs.Math.Decide.{ℕ_discrete}
use native.Mathlib.Omega.{arith}
use Rattle.std.proofs.Math.Dec.{eqb, ltb}
use borrow.Author.Tests.{eqb-true}
use Rattle.words.specs.Kind.{writing}
use Rattle.words.specs.Words.{regions}
use Rattle.words.specs.declared.regions_word.Region.{Region}
use Rattle.words.specs.declared.regions_word.RegionsFields.{RegionsFields}
use Rattle.tables.specs.State.{Opt, none, some, Table}
use Rattle.tables.specs.Laws.State.{not_none, some_inj}
use Rattle.tables.specs.Update.{upd1}
use Rattle.tables.specs.Laws.Update.{upd1_same, upd1_other, row_same, row_other}
use Rattle.tables.specs.View.{regions_place, nth_region, named, view}
use Rattle.tables.specs.Encode.{region_for, regions_for, regions_word, part_word, Canon, Is}
use Rattle.tables.specs.Laws.Encode.{canon_is}
use Rattle.tables.specs.Laws.Back.{Fit, regions_fit}
use Rattle.tables.specs.Laws.FitView.{fit_view}
use Rattle.tables.specs.Laws.Write.{put_part}
use Rattle.tables.specs.Laws.Writes.{is_fit}
use Rattle.tables.specs.Settle.{keep}
use Rattle.tables.specs.Store.{stored}
use Rattle.tables.specs.Laws.Store.{store_word}
use Rattle.tables.specs.Kept.{with_regions, keep_regions}
use Rattle.words.specs.declared.Refusal.{Refusal}

-- ── what is kept ──
pub keep_none : (o : ℕ → Bool) (x : Opt ℕ) → x ≡ none → x ≡ keep o x
unfolding keep
keep_none o x q = rw q refl

-- all, where each that is loaded names an open slot
pub keep_same : (o : ℕ → Bool) (x : Opt ℕ) → ((i : ℕ) → x ≡ some i → o i ≡ true) → keep o x ≡ x
unfolding keep
keep_same o none f = refl
keep_same o (some i) f = rw (f i refl) refl

-- a region that is kept was loaded, with an open slot
pub keep_some : (o : ℕ → Bool) (x : Opt ℕ) (i : ℕ) → keep o x ≡ some i → (x ≡ some i) × (o i ≡ true)
unfolding keep
keep_some o none i q = not_none none refl q
keep_some o (some j) i q = go (o j) refl q
  where
    go : (b : Bool) → o j ≡ b → cond b (some j) none ≡ some i → (some j ≡ some i) × (o i ≡ true)
    go true u v = (v, rw (← (some_inj v)) u)
    go false u v = not_none none refl v

-- a loaded region whose slot is open
pub region_kept : (o : ℕ → Bool) (r : Region) → r.loaded ≡ true → o r.slot.0 ≡ true → r ≡ region_for (keep o (named r))
unfolding region_for keep named
region_kept o r h q = rw (h, q) refl

-- all eight, each by itself
pub kept_regions : (o : ℕ → Bool) (x : ℕ → Opt ℕ) (f g : RegionsFields) → ((r : ℕ) → r < 8 → x r ≡ named (nth_region f r))
    → g.region0 ≡ region_for (keep o (named f.region0)) → g.region1 ≡ region_for (keep o (named f.region1))
    → g.region2 ≡ region_for (keep o (named f.region2)) → g.region3 ≡ region_for (keep o (named f.region3))
    → g.region4 ≡ region_for (keep o (named f.region4)) → g.region5 ≡ region_for (keep o (named f.region5))
    → g.region6 ≡ region_for (keep o (named f.region6)) → g.region7 ≡ region_for (keep o (named f.region7))
    → g ≡ regions_for (λ r. keep o (x r))
unfolding nth_region
kept_regions o x f g h e₀ e₁ e₂ e₃ e₄ e₅ e₆ e₇ = λ y. record {
  region0 = (e₀ ∙ at 0 (omega arith)) y;
  region1 = (e₁ ∙ at 1 (omega arith)) y;
  region2 = (e₂ ∙ at 2 (omega arith)) y;
  region3 = (e₃ ∙ at 3 (omega arith)) y;
  region4 = (e₄ ∙ at 4 (omega arith)) y;
  region5 = (e₅ ∙ at 5 (omega arith)) y;
  region6 = (e₆ ∙ at 6 (omega arith)) y;
  region7 = (e₇ ∙ at 7 (omega arith)) y;
}
  where
    at : (r : ℕ) → r < 8 → region_for (keep o (named (nth_region f r))) ≡ region_for (keep o (x r))
    at r b = ap (λ (n : Opt ℕ). region_for (keep o n)) (sym (h r b))

-- ── the word of all eight is written ──
module _ {l : List ℕ} {t : Table} (was : Is l t) (p : ℕ) (f : ℕ → Opt ℕ) (hp : p < 16) (small : (r i : ℕ) → f r ≡ some i → (r < 8) × (i < 32)) where
  fit_regions : Fit (with_regions t p f)
  fit_regions = let h = is_fit was in record {
    base = h.base;
    stop = h.stop;
    current = h.current;
    parent = h.parent;
    orphan = h.orphan;
    area = h.area;
    slot = h.slot;
    closed = h.closed;
    region = λ q r i u. at q r i u (ℕ_discrete q p);
  }
    where
      at : (q r i : ℕ) → upd1 t.region p f q r ≡ some i → Dec (q ≡ p) → (q < 16) × (r < 8) × (i < 32)
      at q r i u (yes z) = let (a, b) = small r i (sym (row_same t.region p f q r z) ∙ u) in (omega arith, a, b)
      at q r i u (no z) = (is_fit was).region q r i (sym (row_other t.region p f q r z) ∙ u)

  regions_put : Is (set l (regions_place p) (regions_word f)) (with_regions t p f)
  unfolding part_word
  regions_put =
      let n : regions_place p ≡ 1 + 40 * p + 5 = omega arith in
      rw n (put_part was (with_regions t p f) fit_regions p 5 (regions_word f) hp (omega arith) (ap regions_word (upd1_same t.region p f p refl)) refl other)
    where
      other : (q m : ℕ) → ((q ≡ p) × (m ≡ 5) → ⊥) → part_word (with_regions t p f) q m ≡ part_word t q m
      other q m z = go (ltb m 8) (eqb m 5) refl refl
        where
          go : (a b : Bool) → ltb m 8 ≡ a → eqb m 5 ≡ b → part_word (with_regions t p f) q m ≡ part_word t q m
          go false b e g = rw e refl
          go true true e g = rw (e, g) (ap regions_word (upd1_other t.region p f q (λ w. z (w, eqb-true m 5 g))))
          go true false e g = rw (e, g) refl

pub regions_settled : {l : List ℕ} {p : ℕ} {w : Result ℕ Refusal} → Canon l → p < 16
    → w ≡ writing regions (regions_for (λ r. keep ((view l).opened p) ((view l).region p r))) → Is (stored l (regions_place p) w) (keep_regions (view l) p)
unfolding regions_word
regions_settled {l} {p} c hp e =
    rw (e, store_word regions l (regions_place p) {g = regions_for kept} refl (regions_fit kept (λ r i u. (small r i u).1)))
    (regions_put (canon_is c) p kept hp small)
  where
    kept : ℕ → Opt ℕ
    kept r = keep ((view l).opened p) ((view l).region p r)

    small : (r i : ℕ) → kept r ≡ some i → (r < 8) × (i < 32)
    small r i u = let b = (fit_view c).region p r i (keep_some ((view l).opened p) ((view l).region p r) i u).0 in (b.1, b.2)
