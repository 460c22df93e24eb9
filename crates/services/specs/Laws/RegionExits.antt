-- The services of regions: the region that was read is that of the table; and the exits of load.
use Rattle.std.specs.Prelude.{◌≡◌, true, false, not, ◌&&◌, List, ℕ, ◌≤◌, ◌<◌, leb, ltb, eqb}
use Rattle.std.proofs.Math.Path.{refl}
use Rattle.std.proofs.Common.{sym, ◌∙◌, arith, lt-ltb, le-ltb, le-leb, eq-eqb, ne_eqb}
use Rattle.std.proofs.lemmas.Bool.{lt-leb}
use Rattle.words.specs.declared.regions_word.Region.{Region}
use Rattle.words.specs.declared.regions_word.RegionsFields.{RegionsFields}
use Rattle.words.specs.declared.slot_word.SlotFields.{SlotFields}
use Rattle.shapes.specs.declared.Board.{Board}
use Rattle.tables.specs.State.{none, some, Table}
use Rattle.tables.specs.View.{view, nth_region, named}
use Rattle.tables.specs.Update.{upd}
use Rattle.tables.specs.Encode.{slot_word}
use Rattle.tables.specs.Seen.{Seen, SeenRegions}
use Rattle.tables.specs.Laws.Seen.{entry_there, see_region}
use Rattle.tables.specs.Settle.{settle}
use Rattle.sound.specs.Limit.{loaded_pieces}
use Rattle.sound.specs.Clauses.{has}
use Rattle.rules.specs.Rules.{Effect, done, refused, check, own_or_child, elsewhere, load, region_word}
use Rattle.rules.specs.Laws.Ran.{pass, fail, there}
use Rattle.services.specs.RegionExits.{in_another}
use Rattle.words.specs.declared.Refusal.TheVariants.{WrongPartition, NoEntry, NotOpen, WrongRegion, ManyPieces}

-- ── the number of a region ──
pub region_high : (r : ℕ) → 7 < r → ltb r 8 ≡ false
region_high r h = le-ltb r 8 (omega arith)

pub region_low : (r : ℕ) → r ≤ 7 → ltb r 8 ≡ true
region_low r h = lt-ltb r 8 (omega arith)

-- ── the region x that was read ──
module _ {l : List ℕ} {p : ℕ} {f : RegionsFields} {x : Region} (v : SeenRegions l p f) (r : ℕ) (h : r < 8) (is : x ≡ nth_region f r) where
  pub seen_region_small : x.slot.0 < 32
  seen_region_small = rw is (v.small r)

  pub region_none : x.loaded ≡ false → (view l).region p r ≡ none
  unfolding named
  region_none q = see_region v h is ∙ rw q refl

  pub region_some : x.loaded ≡ true → (view l).region p r ≡ some x.slot.0
  unfolding named
  region_some q = see_region v h is ∙ rw q refl

  pub word_none : x.loaded ≡ false → region_word (view l) p ((view l).region p r) ≡ 0
  unfolding region_word
  word_none q = rw (region_none q) refl

  pub word_some : {w : ℕ} → x.loaded ≡ true → w ≡ slot_word ((view l).k.slot p x.slot.0) ((view l).opened p x.slot.0) → region_word (view l) p ((view l).region p r) ≡ w
  unfolding region_word
  word_some q e = rw (region_some q) (sym e)

-- ── a slot in another region ──
pub another_same : (t : Table) (p s r q : ℕ) → q ≡ r → false ≡ in_another t p s r q
unfolding in_another
another_same t p s r q z = rw (eq-eqb q r z) refl

pub another_none : (t : Table) (p s r q : ℕ) → (q ≡ r → ⊥) → t.region p q ≡ none → false ≡ in_another t p s r q
unfolding in_another has
another_none t p s r q z e = rw (ne_eqb q r z, e) refl

pub another_some : (t : Table) (p s r q : ℕ) {i : ℕ} → (q ≡ r → ⊥) → t.region p q ≡ some i → eqb i s ≡ in_another t p s r q
unfolding in_another has
another_some t p s r q z e = rw (ne_eqb q r z, e) refl

-- ── load: the checks before 16 pass ──
module _ (board : Board) {l : List ℕ} {p s : ℕ} {f : SlotFields} (own : own_or_child (view l).k p ≡ true) (v : Seen l p s f) (q : f.present ≡ true) (o : f.opened ≡ true) (r : ℕ) where
  from_16 : {x : Effect} → check WrongRegion (ltb r 8 && not (elsewhere (view l) p s r))
      (check ManyPieces (leb (loaded_pieces board (view l).k.slot (upd (view l).region p r (some s)) p) 8) (done 0 0 (settle (view l).k (upd (view l).region p r (some s))))) ≡ x
      → load board (view l) p s r ≡ x
  unfolding load
  from_16 e = pass WrongPartition own (there NoEntry _ _ (entry_there v q) (pass NotOpen (v.opened ∙ o) e))

  pub load_high : 7 < r → load board (view l) p s r ≡ refused WrongRegion
  load_high h = from_16 (fail WrongRegion _ (rw (region_high r h) refl))

  pub load_twice : r ≤ 7 → elsewhere (view l) p s r ≡ true → load board (view l) p s r ≡ refused WrongRegion
  load_twice h e = from_16 (fail WrongRegion _ (rw (region_low r h, e) refl))

  module _ (h : r ≤ 7) (e : elsewhere (view l) p s r ≡ false) {n : ℕ} (is : n ≡ loaded_pieces board (view l).k.slot (upd (view l).region p r (some s)) p) where
    from_19 : {x : Effect} → check ManyPieces (leb n 8) (done 0 0 (settle (view l).k (upd (view l).region p r (some s)))) ≡ x → load board (view l) p s r ≡ x
    from_19 q = from_16 (pass WrongRegion (rw (region_low r h, e) refl) (rw (← is) q))

    pub load_many : 8 < n → load board (view l) p s r ≡ refused ManyPieces
    load_many w = from_19 (fail ManyPieces _ (lt-leb n 8 w))

    pub load_exit_done : n ≤ 8 → load board (view l) p s r ≡ done 0 0 (settle (view l).k (upd (view l).region p r (some s)))
    load_exit_done w = from_19 (pass ManyPieces (le-leb n 8 w) refl)
