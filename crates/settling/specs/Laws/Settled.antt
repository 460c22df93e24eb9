-- Slots that are closed because an area has come, or opened because areas have gone, lead to the settled table; and the words are seen as that table.
use Rattle.std.specs.Prelude.{◌≡◌, false, cond, ◌&&◌, Result, ℕ}
use Rattle.std.proofs.Math.Path.{refl, ap, sym, subst}
use Rattle.std.proofs.Common.{◌∙◌}
use Rattle.std.proofs.Math.Bool.{Bool, true}
use Rattle.std.proofs.lemmas.Bool.{false≢true}
use mathlib.Core.List.{List}
use Prim.Native.Nat.{ℕ, ◌+◌, ◌-◌, ◌*◌, ◌/◌, ◌≤◌, ◌<◌}
use Rattle.std.proofs.Math.Decide.{ℕ_discrete, dec_lt}
use native.Mathlib.Omega.{arith}
use Rattle.std.proofs.Math.ListN.{set}
use Rattle.loops.specs.Loops.{names, rest}
use Rattle.words.specs.Kind.{writing}
use Rattle.words.specs.Words.{slot}
use Rattle.words.specs.Laws.Kinds.{slot_range}
use Rattle.words.specs.declared.slot_word.SlotFields.{SlotFields}
use Rattle.words.specs.declared.structure_word.StructureFields.{StructureFields}
use Rattle.tables.specs.State.{Opt, none, some, K, Table}
use Rattle.tables.specs.Laws.State.{some_inj, not_none, never_some, same as same-entry}
use Rattle.tables.specs.Update.{both?, upd, upd1}
use Rattle.tables.specs.Laws.Update.{upd_same, upd_other, upd1_same, upd1_other, row_same, row_other, upd1_keep, upd_keep}
use Rattle.tables.specs.View.{slot_place, entry_of, structure_area, view}
use Rattle.tables.specs.Encode.{slot_for, slot_word, encode, Canon, Is}
use Rattle.tables.specs.Laws.Encode.{is_one, is_canon, canon_is}
use Rattle.tables.specs.Laws.Back.{Fit, view_encode}
use Rattle.tables.specs.Laws.FitView.{fit_view}
use Rattle.tables.specs.Write.{with_slot, put_slot}
use Rattle.tables.specs.Laws.Writes.{is_fit, FitEntry, slot_put}
use Rattle.tables.specs.Seen.{Seen, SeenStructure}
use Rattle.tables.specs.Laws.Seen.{entry_there, entry_none}
use Rattle.tables.specs.Store.{stored}
use Rattle.tables.specs.Laws.Store.{store_word}
use Rattle.tables.specs.Settle.{open_bit, open_at, keep, settle, settled}
use Rattle.tables.specs.Kept.{keep_regions}
use Rattle.tables.specs.Laws.Kept.{keep_same, keep_some}
use Rattle.settling.specs.declared.areas.Areas.{Areas}
use Rattle.settling.specs.Areas.{AreasOf, off, clear_of}
use Rattle.settling.specs.Laws.Areas.{clear_quick}
use Rattle.settling.specs.Settled.{Housed, RegionsNamed, UsedEnd, off_entry, Came, Gone, settle_slot, settle_record, Fixed, FixedBut, Nearer, SlotDone, RecordDone}
use Rattle.loops.specs.Laws.Every.{all_at}
use Rattle.words.specs.declared.Refusal.{Refusal}

-- ── two results are equal ──
pub slot_done_one : {P : Table → Type 0} {p i : ℕ} {l m o : List ℕ} → SlotDone P p i l m → SlotDone P p i l o → m ≡ o
slot_done_one x y = is_one x.is y.is

pub record_done_one : {P : Table → Type 0} {p : ℕ} {l m o : List ℕ} → RecordDone P p l m → RecordDone P p l o → m ≡ o
record_done_one x y = is_one x.is y.is

pub ends_one : {k : K} {p n m : ℕ} → UsedEnd k p n → UsedEnd k p m → n ≡ m
ends_one {k} {p} x y = omega (arith, x.is, y.is, not_below x y, not_below y x)
  where
    not_below : {n m : ℕ} (x : UsedEnd k p n) (y : UsedEnd k p m) → x.j < y.j → ⊥
    not_below x y b =
        let (a, u) = y.last (omega arith) in
        let z : 1 + (y.j - 1) ≡ y.j = omega arith in
        not_none (k.area p y.j) (rw z at (x.gone (y.j - 1) (omega arith) (omega (arith, y.within)))) u

-- ── how far slots are in use ──
-- the structures of p from j on are absent
pub record AbsentStructures (k : K) (p j : ℕ) : Type 0 where
  pub within : j ≤ 4
  pub gone : (i : ℕ) → j ≤ i → i < 4 → k.area p (1 + i) ≡ none

pub absent_structures_start : {k : K} {p : ℕ} → AbsentStructures k p 4
absent_structures_start = record { within = omega arith; gone = λ i a b. absurd (omega arith) }

module _ {l : List ℕ} {p j : ℕ} {f : StructureFields} (inv : AbsentStructures (view l).k p j) (h : 0 < j) (v : SeenStructure l p (j - 1) f) where
  pub absent_more : f.present ≡ false → AbsentStructures (view l).k p (j - 1)
  unfolding structure_area
  absent_more n = record { within = omega (arith, inv.within); gone = λ i a b. go i a b (ℕ_discrete i (j - 1)) }
    where
      go : (i : ℕ) → j - 1 ≤ i → i < 4 → Dec (i ≡ j - 1) → (view l).k.area p (1 + i) ≡ none
      go i a b (yes z) = rw z (v.area ∙ rw n refl)
      go i a b (no z) = inv.gone i (omega arith) b

  pub ends_here : f.present ≡ true → UsedEnd (view l).k p (8 * j)
  unfolding structure_area
  ends_here n =
      let z : 1 + (j - 1) ≡ j = omega arith in
      let u : (view l).k.area p (1 + (j - 1)) ≡ some (record { lo = f.start.0; hi = f.end.0 }) = v.area ∙ rw n refl in
      record { j = j; is = refl; within = inv.within; gone = inv.gone; last = λ b. (record { lo = f.start.0; hi = f.end.0 }, rw z at u) }

pub ends_none : {k : K} {p j : ℕ} → AbsentStructures k p j → j ≤ 0 → UsedEnd k p (8 * j)
ends_none {j = j} inv h = record { j = j; is = refl; within = inv.within; gone = inv.gone; last = λ b. absurd (omega arith) }

-- no slot behind them is in use
ends_empty : {k : K} {p n : ℕ} → Housed k → UsedEnd k p n → (i : ℕ) → n ≤ i → i < 32 → k.slot p i ≡ none
ends_empty {k} {p} h x i a b = never_some (k.slot p i) (λ e u.
    let (y, v) = h.at p i e u in not_none (k.area p (1 + i / 8)) (x.gone (i / 8) (omega (arith, x.is)) (omega arith)) v)

-- ── what is kept of a region ──
-- what is dropped first is dropped in any case
keep_twice : (o n : ℕ → Bool) (x : Opt ℕ) → ((i : ℕ) → x ≡ some i → o i ≡ true → n i ≡ true) → keep o (keep n x) ≡ keep o x
unfolding keep
keep_twice o n none f = refl
keep_twice o n (some i) f = go (o i) (n i) refl refl
  where
    go : (b c : Bool) → o i ≡ b → n i ≡ c → keep o (cond c (some i) none) ≡ cond b (some i) none
    go b true u w = rw u refl
    go false false u w = refl
    go true false u w = absurd (false≢true (sym w ∙ f i refl u))

-- ── one open bit ──
-- the table with another open bit
abbrev bit_to : Table → ℕ → ℕ → Bool → Table
bit_to t p i o = record { k = t.k; opened = upd t.opened p i o; region = t.region }

abbrev pub with_opened : SlotFields → Bool → SlotFields
with_opened f o = record { present = f.present; opened = o; rights = f.rights; given = f.given; start = f.start; end = f.end; whole = f.whole }

module _ {l : List ℕ} {p i : ℕ} {f : SlotFields} (c : Canon l) (v : Seen l p i f) where
  -- an open bit is that of an entry
  open_present : f.opened ≡ true → f.present ≡ true
  open_present q = go f.present refl
    where
      go : (b : Bool) → f.present ≡ b → b ≡ true
      go true u = refl
      go false u = sym ((fit_view c).closed p i (entry_none v u)) ∙ v.opened ∙ q

  -- a present slot is written with its new open bit
  bit_put : (o : Bool) {w : Result ℕ Refusal} → p < 16 → i < 32 → f.present ≡ true → w ≡ writing slot (with_opened f o) → Is (stored l (slot_place p i) w) (bit_to (view l) p i o)
  unfolding slot_word
  bit_put o {w} hp hi h u = rw words (subst (Is (set_to o)) same_table (slot_put (canon_is c) p i (some (entry_of f)) o hp hi fits))
    where
      set_to : Bool → List ℕ
      set_to o = set l (slot_place p i) (slot_word (some (entry_of f)) o)

      same : with_opened f o ≡ slot_for (entry_of f) o
      same = λ x. record { present = h x; opened = o; rights = f.rights; given = f.given; start = f.start; end = f.end; whole = f.whole }

      words : stored l (slot_place p i) w ≡ set_to o
      words = ap (stored l (slot_place p i)) u ∙ store_word slot l (slot_place p i) same (slot_range (with_opened f o) v.given_small v.start_small v.end_small)

      fits : FitEntry (some (entry_of f)) o
      fits = record { range = λ e z. let s = same-entry (some_inj z) in (omega (arith, v.given_small, s.given), omega (arith, v.start_small, s.start), omega (arith, v.end_small, s.stop)); closed = λ z. not_none none refl (sym z) }

      same_table : put_slot (view l) p i (some (entry_of f)) o ≡ bit_to (view l) p i o
      same_table = λ x. record { k = with_slot (view l).k ((ap (upd (view l).k.slot p i) (sym (entry_there v h)) ∙ upd_keep (view l).k.slot p i) x); opened = upd (view l).opened p i o; region = (view l).region }

-- ── a slot is settled ──
-- what is not there is fixed
no_entry : {l : List ℕ} → Canon l → (p i : ℕ) → (view l).k.slot p i ≡ none → Fixed l p i
unfolding open_at open_bit
no_entry c p i q = rw q (sym ((fit_view c).closed p i q))

module _ (t : Table) (p i : ℕ) where
  -- the open bits then, and the regions of p
  abbrev bits_then : ℕ → ℕ → Bool
  bits_then = upd t.opened p i (open_at t.k p i)

  abbrev regions_then : ℕ → Opt ℕ
  regions_then r = keep (bits_then p) (t.region p r)

  slot_fixed : (q j : ℕ) → open_at t.k q j ≡ t.opened q j → open_at t.k q j ≡ bits_then q j
  slot_fixed q j w = go (both? p i q j)
    where
      go : Dec ((q ≡ p) × (j ≡ i)) → open_at t.k q j ≡ bits_then q j
      go (yes z) = rw (upd_same t.opened p i (open_at t.k p i) q j z, z.0, z.1) refl
      go (no z) = rw (upd_other t.opened p i (open_at t.k p i) q j z) w

  -- no region is dropped where each names an open slot then
  regions_stay : ((r j : ℕ) → t.region p r ≡ some j → bits_then p j ≡ true) → t.region ≡ upd1 t.region p regions_then
  regions_stay f = sym (ap (upd1 t.region p) (λ x r. keep_same (bits_then p) (t.region p r) (f r) x) ∙ upd1_keep t.region p)

  module _ (h : RegionsNamed t) where
    slot_named : RegionsNamed (settle_slot t p i)
    slot_named = record { at = λ q r j u. name q r j u (ℕ_discrete q p) }
      where
        name : (q r j : ℕ) → upd1 t.region p regions_then q r ≡ some j → Dec (q ≡ p) → bits_then q j ≡ true
        name q r j u (yes z) = rw z (keep_some (bits_then p) (t.region p r) j (sym (row_same t.region p regions_then q r z) ∙ u)).1
        name q r j u (no z) = upd_other t.opened p i (open_at t.k p i) q j (λ w. z w.0) ∙ h.at q r j (sym (row_other t.region p regions_then q r z) ∙ u)

    slot_same : settled (settle_slot t p i) ≡ settled t
    unfolding settle
    slot_same = λ x. record { k = t.k; opened = open_at t.k; region = λ q r. at q r (ℕ_discrete q p) x }
      where
        then : (r j : ℕ) → t.region p r ≡ some j → open_at t.k p j ≡ true → bits_then p j ≡ true
        then r j u q = go (both? p i p j)
          where
            go : Dec ((p ≡ p) × (j ≡ i)) → bits_then p j ≡ true
            go (yes z) = upd_same t.opened p i (open_at t.k p i) p j z ∙ ap (open_at t.k p) (sym z.1) ∙ q
            go (no z) = upd_other t.opened p i (open_at t.k p i) p j z ∙ h.at p r j u

        at : (q r : ℕ) → Dec (q ≡ p) → keep (open_at t.k q) (upd1 t.region p regions_then q r) ≡ keep (open_at t.k q) (t.region q r)
        at q r (yes z) =
            ap (keep (open_at t.k q)) (row_same t.region p regions_then q r z)
            ∙ rw z (keep_twice (open_at t.k p) (bits_then p) (t.region p r) (then r))
        at q r (no z) = ap (keep (open_at t.k q)) (row_other t.region p regions_then q r z)

-- the words of it
slot_done : {P : Table → Type 0} {l m : List ℕ} (p i : ℕ) → RegionsNamed (view l) → P (settle_slot (view l) p i) → Is m (settle_slot (view l) p i) → SlotDone P p i l m
slot_done {P} {l} {m} p i h then is = record {
  is = is;
  near = record {
    canon = is_canon is;
    still = subst P (sym is.viewed) then;
    same = ap (λ (t : Table). settled t) is.viewed ∙ slot_same (view l) p i h;
    keeps = λ q j w. seen q j (slot_fixed (view l) p i q j w);
  };
  fixed = seen p i (sym (upd_same (view l).opened p i (open_at (view l).k p i) p i (refl, refl)));
}
  where
    seen : (q j : ℕ) → open_at (view l).k q j ≡ (settle_slot (view l) p i).opened q j → Fixed m q j
    seen q j = subst (λ (t : Table). open_at t.k q j ≡ t.opened q j) (sym is.viewed)

-- a bit that is fixed already: nothing changes
slot_stays : {l : List ℕ} (p i : ℕ) → Canon l → RegionsNamed (view l) → Fixed l p i → Is l (settle_slot (view l) p i)
slot_stays {l} p i c h q = subst (Is l) same (canon_is c)
  where
    bits : (view l).opened ≡ bits_then (view l) p i
    bits = sym (ap (upd (view l).opened p i) q ∙ upd_keep (view l).opened p i)

    same : view l ≡ settle_slot (view l) p i
    same = λ x. record {
      k = (view l).k;
      opened = bits x;
      region = regions_stay (view l) p i (λ r j u. sym (ap (λ (f : ℕ → ℕ → Bool). f p j) bits) ∙ h.at p r j u) x;
    }

-- ── an area has come ──
twice : (x y z : Bool) → x ≡ y && z → x ≡ x && z
twice true y true q = refl
twice false y z q = refl
twice true true false q = q
twice true false false q = q

slot_came : {t : Table} {a b : ℕ} → Came a b t → (p i : ℕ) → Came a b (settle_slot t p i)
slot_came {t} {a} {b} h p i = record { housed = h.housed; named = slot_named t p i h.named; bits = λ q j. bit q j (both? p i q j) }
  where
    bit : (q j : ℕ) → Dec ((q ≡ p) × (j ≡ i)) → open_at t.k q j ≡ bits_then t p i q j && off_entry a b (t.k.slot q j)
    bit q j (yes z) = rw (upd_same t.opened p i (open_at t.k p i) q j z, z.0, z.1) (twice (open_at t.k p i) (t.opened p i) (off_entry a b (t.k.slot p i)) (h.bits p i))
    bit q j (no z) = rw (upd_other t.opened p i (open_at t.k p i) q j z) (h.bits q j)

module _ {l : List ℕ} {p i a b : ℕ} {f : SlotFields} (c : Canon l) (h : Came a b (view l)) (v : Seen l p i f) where
  came_done : {m : List ℕ} → Is m (settle_slot (view l) p i) → SlotDone (Came a b) p i l m
  came_done = slot_done p i h.named (slot_came h p i)

  -- S9, where an entry is open
  by_lines : f.opened ≡ true → open_at (view l).k p i ≡ off a b f.start.0 f.end.0
  unfolding off_entry
  by_lines q = h.bits p i ∙ rw (v.opened, q, entry_there v (open_present c v q)) refl

  -- it is closed; or it is open, and ends before the area or starts behind it
  pub stays_closed : f.opened ≡ false → SlotDone (Came a b) p i l l
  stays_closed q = came_done (slot_stays p i c h.named (h.bits p i ∙ rw (v.opened, q) refl))

  pub stays_open : f.opened ≡ true → off a b f.start.0 f.end.0 ≡ true → SlotDone (Came a b) p i l l
  stays_open q z = came_done (slot_stays p i c h.named (by_lines q ∙ z ∙ sym (v.opened ∙ q)))

  -- it is written as closed, and the regions follow
  pub close_canon : {m : List ℕ} {w : Result ℕ Refusal} → p < 16 → i < 32 → f.opened ≡ true → w ≡ writing slot (with_opened f false) → m ≡ stored l (slot_place p i) w → Canon m
  close_canon hp hi q u e = rw e (is_canon (bit_put c v false hp hi (open_present c v q) u))

  pub closes : {m o : List ℕ} {w : Result ℕ Refusal} → p < 16 → i < 32 → f.opened ≡ true → off a b f.start.0 f.end.0 ≡ false → w ≡ writing slot (with_opened f false)
      → m ≡ stored l (slot_place p i) w → Is o (keep_regions (view m) p) → SlotDone (Came a b) p i l o
  closes {m} {o} hp hi q z u e kept = came_done (subst (Is o) (ap (λ (t : Table). keep_regions t p) seen) kept)
    where
      seen : view m ≡ bit_to (view l) p i (open_at (view l).k p i)
      seen = ap view e ∙ (bit_put c v false hp hi (open_present c v q) u).viewed ∙ ap (bit_to (view l) p i) (sym (by_lines q ∙ z))

-- ── areas have gone ──
module _ {t : Table} (h : Gone t) (p i : ℕ) where
  slot_gone : Gone (settle_slot t p i)
  slot_gone = record { housed = h.housed; named = slot_named t p i h.named; stays = λ q j u. stay q j u (both? p i q j) }
    where
      stay : (q j : ℕ) → bits_then t p i q j ≡ true → Dec ((q ≡ p) × (j ≡ i)) → open_at t.k q j ≡ true
      stay q j u (yes z) = rw (z.0, z.1) (sym (upd_same t.opened p i (open_at t.k p i) q j z) ∙ u)
      stay q j u (no z) = h.stays q j (sym (upd_other t.opened p i (open_at t.k p i) q j z) ∙ u)

  -- what is open stays open
  still_open : (j : ℕ) → t.opened p j ≡ true → bits_then t p i p j ≡ true
  still_open j w = go (both? p i p j)
    where
      go : Dec ((p ≡ p) × (j ≡ i)) → bits_then t p i p j ≡ true
      go (yes z) = upd_same t.opened p i (open_at t.k p i) p j z ∙ ap (open_at t.k p) (sym z.1) ∙ h.stays p j w
      go (no z) = upd_other t.opened p i (open_at t.k p i) p j z ∙ w

  -- .. so no region changes
  only_bit : bit_to t p i (open_at t.k p i) ≡ settle_slot t p i
  only_bit = λ x. record { k = t.k; opened = bits_then t p i; region = regions_stay t p i (λ r j u. still_open j (h.named.at p r j u)) x }

module _ {l : List ℕ} {p i : ℕ} {f : SlotFields} (c : Canon l) (h : Gone (view l)) (v : Seen l p i f) where
  gone_done : {m : List ℕ} → Is m (settle_slot (view l) p i) → SlotDone Gone p i l m
  gone_done = slot_done p i h.named (slot_gone h p i)

  pub stays_empty : f.present ≡ false → SlotDone Gone p i l l
  stays_empty q = gone_done (slot_stays p i c h.named (no_entry c p i (entry_none v q)))

  pub open_stays : f.opened ≡ true → SlotDone Gone p i l l
  open_stays q = gone_done (slot_stays p i c h.named (h.stays p i (v.opened ∙ q) ∙ sym (v.opened ∙ q)))

  pub opens : {m : List ℕ} {g : Areas} {o : Bool} {w : Result ℕ Refusal} → p < 16 → i < 32 → AreasOf (view l).k g → f.present ≡ true
      → o ≡ clear_of g f.start.0 f.end.0 → w ≡ writing slot (with_opened f o) → m ≡ stored l (slot_place p i) w → SlotDone Gone p i l m
  unfolding open_at open_bit
  opens {m} {o = o} {w} hp hi a q z u y = gone_done (rw y (subst (Is (stored l (slot_place p i) w)) (ap (bit_to (view l) p i) bit ∙ only_bit h p i) (bit_put c v o hp hi q u)))
    where
      bit : o ≡ open_at (view l).k p i
      bit = z ∙ clear_quick (view l).k a f.start.0 f.end.0 ∙ rw (entry_there v q) refl

-- ── steps ──
module _ {P : Table → Type 0} where
  near_start : {l : List ℕ} → Canon l → P (view l) → Nearer P l l
  near_start c h = record { canon = c; still = h; same = refl; keeps = λ p i q. q }

  near_on : {l m o : List ℕ} → Nearer P l m → Nearer P m o → Nearer P l o
  near_on a b = record { canon = b.canon; still = b.still; same = b.same ∙ a.same; keeps = λ p i q. b.keeps p i (a.keeps p i q) }

  near_k : {l m : List ℕ} → Nearer P l m → (view m).k ≡ (view l).k
  unfolding settle
  near_k a = ap (λ (t : Table). t.k) a.same

  pub near_areas : {l m : List ℕ} {g : Areas} → Nearer P l m → AreasOf (view l).k g → AreasOf (view m).k g
  near_areas {g = g} a = subst (λ (k : K). AreasOf k g) (sym (near_k a))

-- ── the slots of p ──
-- the record of q is as it was
record Stays (q : ℕ) (l m : List ℕ) : Type 0 where
  opened : (view m).opened q ≡ (view l).opened q
  region : (view m).region q ≡ (view l).region q

-- at i, so many bits of p are fixed, and no other record has changed
pub record SettledRowTo (P : Table → Type 0) (l : List ℕ) (p i : ℕ) (m : List ℕ) : Type 0 where
  pub near : Nearer P l m
  pub fixed : (j : ℕ) → j < i → Fixed m p j
  others : (q : ℕ) → (q ≡ p → ⊥) → Stays q l m

module _ {P : Table → Type 0} where
  pub settled_row_start : {l : List ℕ} {p : ℕ} → Canon l → P (view l) → SettledRowTo P l p 0 l
  settled_row_start c h = record { near = near_start c h; fixed = λ j b. absurd (omega arith); others = λ q z. record { opened = refl; region = refl } }

  pub settled_row_more : {l m o : List ℕ} {p i : ℕ} → SettledRowTo P l p i m → SlotDone P p i m o → SettledRowTo P l p (i + 1) o
  settled_row_more {l} {m} {o} {p} {i} inv d = record {
    near = near_on inv.near d.near;
    fixed = λ j c. go j c (ℕ_discrete j i);
    others = λ q z. record {
      opened = ap (λ (t : Table). t.opened q) d.is.viewed ∙ (λ x j. upd_other (view m).opened p i (open_at (view m).k p i) q j (λ w. z w.0) x) ∙ (inv.others q z).opened;
      region = ap (λ (t : Table). t.region q) d.is.viewed ∙ upd1_other (view m).region p (regions_then (view m) p i) q z ∙ (inv.others q z).region;
    };
  }
    where
      go : (j : ℕ) → j < i + 1 → Dec (j ≡ i) → Fixed o p j
      go j c (yes z) = rw z d.fixed
      go j c (no z) = d.near.keeps p j (inv.fixed j (omega arith))

  pub settled_row_end : {l m : List ℕ} {p i n : ℕ} → SettledRowTo P l p i m → Housed (view l).k → RegionsNamed (view m) → UsedEnd (view l).k p n → n ≤ i → RecordDone P p l m
  unfolding settle
  settled_row_end {l} {m} {p} {i} {n} inv house names ends b = record { is = subst (Is m) same (canon_is inv.near.canon); near = inv.near; fixed = bits }
    where
      empty : (j : ℕ) → i ≤ j → (view m).k.slot p j ≡ none
      empty j a = never_some ((view m).k.slot p j) (λ e u.
          not_none ((view l).k.slot p j) (ends_empty house ends j (omega arith) ((fit_view inv.near.canon).slot p j e u).1) (ap (λ (k : K). k.slot p j) (sym (near_k inv.near)) ∙ u))

      bits : (j : ℕ) → Fixed m p j
      bits j = go (dec_lt j i)
        where
          go : Dec (j < i) → Fixed m p j
          go (yes a) = inv.fixed j a
          go (no a) = no_entry inv.near.canon p j (empty j (omega arith))

      open_row : (view m).opened p ≡ open_at (view l).k p
      open_row = (λ x j. sym (bits j) x) ∙ ap (λ (k : K). open_at k p) (near_k inv.near)

      kept : ℕ → Opt ℕ
      kept r = keep (open_at (view l).k p) ((view l).region p r)

      region_row : (view m).region p ≡ kept
      region_row = λ x r. (sym (keep_same (open_at (view m).k p) ((view m).region p r) (λ j u. bits j ∙ names.at p r j u)) ∙ ap (λ (t : Table). t.region p r) inv.near.same) x

      opened : (q : ℕ) → Dec (q ≡ p) → (view m).opened q ≡ upd1 (view l).opened p (open_at (view l).k p) q
      opened q (yes z) = ap (view m).opened z ∙ open_row ∙ sym (upd1_same (view l).opened p (open_at (view l).k p) q z)
      opened q (no z) = (inv.others q z).opened ∙ sym (upd1_other (view l).opened p (open_at (view l).k p) q z)

      region : (q : ℕ) → Dec (q ≡ p) → (view m).region q ≡ upd1 (view l).region p kept q
      region q (yes z) = ap (view m).region z ∙ region_row ∙ sym (upd1_same (view l).region p kept q z)
      region q (no z) = (inv.others q z).region ∙ sym (upd1_other (view l).region p kept q z)

      same : view m ≡ settle_record (view l) p
      same = λ x. record { k = near_k inv.near x; opened = λ q. opened q (ℕ_discrete q p) x; region = λ q. region q (ℕ_discrete q p) x }

-- ── all partitions ──
-- at n, the bits of so many are fixed
pub record AllTo (P : Table → Type 0) (l : List ℕ) (n : ℕ) (m : List ℕ) : Type 0 where
  pub near : Nearer P l m
  pub fixed : (p j : ℕ) → p < n → Fixed m p j

module _ {P : Table → Type 0} where
  pub settled_all_start : {l : List ℕ} → Canon l → P (view l) → AllTo P l 0 l
  settled_all_start c h = record { near = near_start c h; fixed = λ p j b. absurd (omega arith) }

  -- one more: what was fixed is fixed still, and n is
  more : {l m o : List ℕ} {n : ℕ} → AllTo P l n m → Nearer P m o → ((j : ℕ) → Fixed o n j) → AllTo P l (n + 1) o
  more {o = o} {n} inv near own = record { near = near_on inv.near near; fixed = λ p j c. go p j c (ℕ_discrete p n) }
    where
      go : (p j : ℕ) → p < n + 1 → Dec (p ≡ n) → Fixed o p j
      go p j c (yes z) = rw z (own j)
      go p j c (no z) = near.keeps p j (inv.fixed p j (omega arith))

  pub settled_all_more : {l m o : List ℕ} {n : ℕ} → AllTo P l n m → RecordDone P n m o → AllTo P l (n + 1) o
  settled_all_more inv d = more inv d.near d.fixed

  -- whom a mask does not name is fixed from the beginning
  pub settled_all_pass : {mask n : ℕ} {l m : List ℕ} → FixedBut mask l → AllTo P l n m → n < 16 → names mask n ≡ false → AllTo P l (n + 1) m
  settled_all_pass {n = n} but inv b z = more inv (near_start inv.near.canon inv.near.still) (λ j. inv.near.keeps n j (but.at n j b z))

  -- the table is its own settled one, and so the one that was to be settled
  pub settled_all_end : {l m : List ℕ} {n : ℕ} → AllTo P l n m → RegionsNamed (view m) → 16 ≤ n → m ≡ encode (settled (view l))
  unfolding settle
  settled_all_end {l} {m} {n} inv names b = sym inv.near.canon.same ∙ ap encode (sym own ∙ inv.near.same)
    where
      bit : (p i : ℕ) → Dec (p < n) → Fixed m p i
      bit p i (yes a) = inv.fixed p i a
      bit p i (no a) =
          no_entry inv.near.canon p i
          (never_some ((view m).k.slot p i) (λ e u. let z = ((fit_view inv.near.canon).slot p i e u).0 in omega arith))

      own : settled (view m) ≡ view m
      own = λ x. record {
        k = (view m).k;
        opened = λ p i. bit p i (dec_lt p n) x;
        region = λ p r. keep_same (open_at (view m).k p) ((view m).region p r) (λ i u. bit p i (dec_lt p n) ∙ names.at p r i u) x;
      }

-- a mask with all sixteen bits leaves nobody out
all_set : (q : ℕ) → q < 16 → names 0xffff q ≡ true
unfolding names rest
all_set = all_at 16 (names 0xffff) refl

pub fixed_all : (l : List ℕ) → FixedBut 0xffff l
fixed_all l = record { small = omega arith; at = λ p i b z. absurd (false≢true (sym z ∙ all_set p b)) }

-- ── what settle leaves is seen as the settled table ──
fit_settled : (t : Table) → Fit t → Fit (settled t)
unfolding settle open_at open_bit
fit_settled t h = record {
  base = h.base;
  stop = h.stop;
  current = h.current;
  parent = h.parent;
  orphan = h.orphan;
  area = h.area;
  slot = h.slot;
  closed = λ p i q. rw q refl;
  region = λ p r i u. h.region p r i (keep_some (open_at t.k p) (t.region p r) i u).0;
}

pub settled_is : {l m : List ℕ} {t : Table} → Is l t → m ≡ encode (settled (view l)) → Is m (settled t)
settled_is {l} {m} {t} was e =
    let q : m ≡ encode (settled t) = e ∙ ap (λ (x : Table). encode (settled x)) was.viewed in
    record { viewed = ap view q ∙ view_encode (settled t) (fit_settled t (is_fit was)); encoded = sym q }
