-- Pack, exit by exit: one region renamed, then all; one move; one turn; and all turns leave the words of the rule.
use Rattle.std.specs.Prelude.{◌≡◌, Bool, true, false, List, ℕ, ◌+◌, ◌≤◌, ◌<◌, Ok}
use Rattle.std.proofs.Math.Path.{refl, ap, subst}
use Rattle.std.proofs.Common.{sym, ◌∙◌, arith}
use Rattle.std.proofs.Math.Decide.{ℕ_discrete}
use borrow.Author.Tests.{eq-eqb, ne_eqb}
use Rattle.loops.specs.Laws.Scan.{seek_first, seek_none}
use Rattle.loops.specs.Loops.{carried}
use Rattle.loops.specs.Laws.Carry.{done_none, done_more}
use Rattle.words.specs.declared.regions_word.Region.{Region}
use Rattle.words.specs.declared.regions_word.RegionsFields.{RegionsFields}
use Rattle.words.specs.declared.slot_word.SlotFields.{SlotFields}
use Rattle.tables.specs.State.{Opt, none, some, Entry, Area, Table}
use Rattle.tables.specs.Laws.State.{never_some}
use Rattle.tables.specs.Update.{upd, upd1}
use Rattle.tables.specs.Laws.Update.{upd1_same, upd1_other, row_same, row_other, upd1_keep, upd_keep}
use Rattle.settling.specs.UpTo.{up_to}
use Rattle.settling.specs.Laws.UpTo.{up_above, up_start, up_more, up_end, upd_row_put}
use Rattle.tables.specs.View.{view, nth_region, entry_of}
use Rattle.tables.specs.Encode.{Canon, Is}
use Rattle.tables.specs.Laws.Encode.{canon_is, is_canon}
use Rattle.tables.specs.Laws.Back.{Fit}
use Rattle.tables.specs.Seen.{Seen, SeenRegions}
use Rattle.tables.specs.Laws.Seen.{entry_none, entry_there}
use Rattle.tables.specs.Write.{with_slot, put_region}
use Rattle.tables.specs.Search.{lowest, is_some, free}
use Rattle.tables.specs.Laws.Search.{lowest_some, lowest_none}
use Rattle.tables.specs.Settle.{open_bit, open_at}
use Rattle.sound.specs.Whole.{Right}
use Rattle.sound.specs.Laws.Settled.{Settled, right_settled, settled_words}
use Rattle.rules.specs.Pack.{usable, Packing, free_in, rename, move_entry, move_to, pack_slot, packing_of, packed}
use Rattle.rules.proofs.Laws.Pack.{packed_few, packed_open}
use Rattle.rules.specs.Rules.{own_or_child, pack}
use Rattle.rules.specs.Ran.{Ran}
use Rattle.rules.specs.Laws.Ran.{ran_done, pass}
use Rattle.services.specs.Laws.RegionExits.{region_none, region_some}
use Rattle.services.specs.PackExits.{rename_at, renamed, moved_to, pack_table, CanPack, Turned}
use Rattle.words.specs.declared.Refusal.TheVariants.{WrongPartition}

-- ── one region ──
module _ {l : List ℕ} {p : ℕ} {f : RegionsFields} {x : Region} (v : SeenRegions l p f) (i j r : ℕ) (h : r < 8) (is : x ≡ nth_region f r) where
  -- the words stay where the region does
  region_same : Canon l → (view l).region p r ≡ rename i j ((view l).region p r) → Is l (rename_at (view l) p i j r)
  region_same c e = subst (Is l) same (canon_is c)
    where
      same : view l ≡ rename_at (view l) p i j r
      same = λ y. record { k = (view l).k; opened = (view l).opened; region = (sym (upd_keep (view l).region p r) ∙ ap (upd (view l).region p r) e) y }

  pub rename_unloaded : Canon l → x.loaded ≡ false → Is l (rename_at (view l) p i j r)
  unfolding rename
  rename_unloaded c q = region_same c (rw (region_none v r h is q) refl)

  pub rename_other : Canon l → x.loaded ≡ true → (x.slot.0 ≡ i → ⊥) → Is l (rename_at (view l) p i j r)
  unfolding rename
  rename_other c q n = region_same c (rw (region_some v r h is q, ne_eqb x.slot.0 i n) refl)

  pub rename_hit : {m : List ℕ} → x.loaded ≡ true → x.slot.0 ≡ i → Is m (put_region (view l) p r (some j)) → Is m (rename_at (view l) p i j r)
  unfolding rename
  rename_hit {m} q z put = subst (λ (o : Opt ℕ). Is m (put_region (view l) p r o)) (sym (rw (region_some v r h is q, eq-eqb x.slot.0 i z) refl)) put

-- ── the regions of p ──
-- .. the first n of them
abbrev pub renamed_to : Table → ℕ → ℕ → ℕ → ℕ → Table
renamed_to t p i j n = record { k = t.k; opened = t.opened; region = upd1 t.region p (up_to n (λ r. rename i j (t.region p r)) (t.region p)) }

-- at n, the words are those of this table
pub record Renaming (t : Table) (p i j n : ℕ) (l : List ℕ) : Type 0 where
  pub within : n ≤ 8
  pub is : Is l (renamed_to t p i j n)

pub rename_start : {l : List ℕ} {p i j : ℕ} → Canon l → Renaming (view l) p i j 0 l
rename_start {l} {p} {i} {j} c = record { within = omega arith; is = subst (Is l) (sym none_yet) (canon_is c) }
  where
    none_yet : renamed_to (view l) p i j 0 ≡ view l
    none_yet = λ x. record {
      k = (view l).k;
      opened = (view l).opened;
      region = (ap (upd1 (view l).region p) (up_start (λ r. rename i j ((view l).region p r)) ((view l).region p)) ∙ upd1_keep (view l).region p) x;
    }

module _ {t : Table} {p i j n : ℕ} {l : List ℕ} (inv : Renaming t p i j n l) where
  pub rename_more : {m : List ℕ} → n < 8 → Is m (rename_at (view l) p i j n) → Renaming t p i j (n + 1) m
  rename_more {m} b h = record { within = omega arith; is = subst (Is m) (ap (λ (x : Table). rename_at x p i j n) inv.is.viewed ∙ next) h }
    where
      new : ℕ → Opt ℕ
      new r = rename i j (t.region p r)

      row : ℕ → Opt ℕ
      row = up_to n new (t.region p)

      old : upd1 t.region p row p n ≡ t.region p n
      old = row_same t.region p row p n refl ∙ up_above n new (t.region p) n (omega arith)

      regions : upd (upd1 t.region p row) p n (rename i j (upd1 t.region p row p n)) ≡ upd1 t.region p (up_to (n + 1) new (t.region p))
      regions =
          ap (λ (o : Opt ℕ). upd (upd1 t.region p row) p n (rename i j o)) old
          ∙ upd_row_put t.region p row n (new n)
          ∙ ap (upd1 t.region p) (up_more n new (t.region p))

      next : rename_at (renamed_to t p i j n) p i j n ≡ renamed_to t p i j (n + 1)
      next = λ x. record { k = t.k; opened = t.opened; region = regions x }

  pub rename_end : Fit t → 8 ≤ n → Is l (renamed t p i j)
  unfolding rename
  rename_end h b =
      let z : n ≡ 8 = omega (arith, inv.within) in
      subst (Is l) (ap (λ (m : ℕ). renamed_to t p i j m) z ∙ all_done) inv.is
    where
      out : (r : ℕ) → 8 ≤ r → t.region p r ≡ none
      out r o = never_some (t.region p r) (λ m u. let c = (h.region p r m u).1 in omega arith)

      all_done : renamed_to t p i j 8 ≡ renamed t p i j
      all_done = λ x. record {
        k = t.k;
        opened = t.opened;
        region = upd1 t.region p (up_end 8 (λ r. rename i j (t.region p r)) (t.region p) (λ r o. rw (out r o) refl) x);
      }

-- ── one turn ──
-- one value of a function of two numbers is one value of its row
upd_row : {A : Type 0} (f : ℕ → ℕ → A) (p i : ℕ) (a : A) → upd f p i a ≡ upd1 f p (upd1 (f p) i a)
upd_row f p i a = ap (λ (g : ℕ → ℕ → _). upd g p i a) (sym (upd1_keep f p)) ∙ upd_row_put f p (f p) i a

-- a function of every value
upd1_map : {A B : Type 0} (g : A → B) (f : ℕ → A) (i : ℕ) (a : A) → upd1 (λ m. g (f m)) i (g a) ≡ (λ m. g (upd1 f i a m))
upd1_map g f i a = λ x m. at m (ℕ_discrete m i) x
  where
    at : (m : ℕ) → Dec (m ≡ i) → upd1 (λ m. g (f m)) i (g a) m ≡ g (upd1 f i a m)
    at m (yes z) = upd1_same (λ m. g (f m)) i (g a) m z ∙ ap g (sym (upd1_same f i a m z))
    at m (no z) = upd1_other (λ m. g (f m)) i (g a) m z ∙ ap g (sym (upd1_other f i a m z))

-- two values of one row
two_row : {A : Type 0} (f : ℕ → ℕ → A) (p i j : ℕ) (a b : A) → upd (upd f p j a) p i b ≡ upd1 f p (upd1 (upd1 (f p) j a) i b)
two_row f p i j a b = ap (λ (g : ℕ → ℕ → _). upd g p i b) (upd_row f p j a) ∙ upd_row_put f p (upd1 (f p) j a) i b

-- the lowest number of 32 and the lowest below i
module _ (f : ℕ → Bool) (i : ℕ) where
  lowest_under : (j : ℕ) → lowest 32 f ≡ some j → j < i → lowest i f ≡ some j
  unfolding lowest
  lowest_under j q b = let w = lowest_some 32 f j q in seek_first f some none i j b w.holds w.before

  lowest_over : (j : ℕ) → lowest 32 f ≡ some j → i ≤ j → lowest i f ≡ none
  unfolding lowest
  lowest_over j q b = let w = lowest_some 32 f j q in seek_none f some none i (λ m c. w.before m (omega arith))

  lowest_never : lowest 32 f ≡ none → i < 32 → lowest i f ≡ none
  unfolding lowest
  lowest_never q b = seek_none f some none i (λ m c. lowest_none 32 f q m (omega arith))

-- what stands in a table, put where it stands
put_back : (t : Table) (p n : ℕ) → ((m : ℕ) → t.opened p m ≡ open_at t.k p m) → t ≡ pack_table t p (packing_of t p n)
unfolding open_at
put_back t p n bits = λ x. record {
  k = with_slot t.k (sym (upd1_keep t.k.slot p) x);
  opened = (sym (upd1_keep t.opened p) ∙ ap (upd1 t.opened p) (λ y m. bits m y)) x;
  region = sym (upd1_keep t.region p) x;
}

module _ {l : List ℕ} {p i moved : ℕ} (c : CanPack l p i moved) where
  abbrev rows : Packing
  rows = packing_of (view l) p moved

  bits : (view l).opened p ≡ (λ m. open_bit (view l).k.area ((view l).k.slot p m))
  unfolding open_at
  bits = λ x m. c.bits m x

  -- nothing moves
  turn_stays : pack_slot (usable (view l).k p) i rows ≡ rows → Turned (view l) p i moved l moved
  turn_stays q = record {
    is = subst (Is l) (put_back (view l) p moved c.bits ∙ ap (pack_table (view l) p) (sym q)) (canon_is c.canon);
    number = ap (λ (s : Packing). s.moved) (sym q);
  }

  module _ {f : SlotFields} (v : Seen l p i f) where
    pub turn_empty : f.present ≡ false → Turned (view l) p i moved l moved
    unfolding pack_slot
    turn_empty q = turn_stays (rw (entry_none v q) refl)

    module _ (q : f.present ≡ true) where
      there : is_some ((view l).k.slot p i) ≡ true
      there = ap is_some (entry_there v q)

      pub turn_full : lowest 32 (free (view l).k p) ≡ none → Turned (view l) p i moved l moved
      unfolding pack_slot move_to free usable
      turn_full z = turn_stays (rw (there, lowest_never (free_in (usable (view l).k p) ((view l).k.slot p)) i z c.in_i) refl)

      pub turn_above : (j : ℕ) → lowest 32 (free (view l).k p) ≡ some j → i ≤ j → Turned (view l) p i moved l moved
      unfolding pack_slot move_to free usable
      turn_above j z b = turn_stays (rw (there, lowest_over (free_in (usable (view l).k p) ((view l).k.slot p)) i j z b) refl)

      pub turn_moves : (j : ℕ) → lowest 32 (free (view l).k p) ≡ some j → j < i → {m : List ℕ} → Is m (moved_to (view l) p i j f) → Turned (view l) p i moved m (moved + 1)
      unfolding pack_slot move_to free usable open_bit open_at
      turn_moves j z b {m} is = record {
        is = subst (Is m) (same ∙ ap (pack_table (view l) p) (sym step)) is;
        number = ap (λ (s : Packing). s.moved) (sym step);
      }
        where
          step : pack_slot (usable (view l).k p) i rows ≡ move_entry i j rows
          step = rw (there, lowest_under (free_in (usable (view l).k p) ((view l).k.slot p)) i j z b) refl

          slots : upd (upd (view l).k.slot p j (some (entry_of f))) p i none ≡ upd1 (view l).k.slot p (upd1 (upd1 ((view l).k.slot p) j ((view l).k.slot p i)) i none)
          slots = rw (entry_there v q) (two_row (view l).k.slot p i j (some (entry_of f)) none)

          opened : upd (upd (view l).opened p j f.opened) p i false
              ≡ upd1 (view l).opened p (λ m. open_bit (view l).k.area (upd1 (upd1 ((view l).k.slot p) j ((view l).k.slot p i)) i none m))
          opened =
              rw (← v.opened, c.bits i) (two_row (view l).opened p i j (open_at (view l).k p i) false)
              ∙ ap (upd1 (view l).opened p) row
            where
              area : ℕ → ℕ → Opt Area
              area = (view l).k.area

              row : upd1 (upd1 ((view l).opened p) j (open_at (view l).k p i)) i false ≡ (λ m. open_bit area (upd1 (upd1 ((view l).k.slot p) j ((view l).k.slot p i)) i none m))
              row = rw bits (ap (λ (g : ℕ → Bool). upd1 g i false) (upd1_map (open_bit area) ((view l).k.slot p) j ((view l).k.slot p i)) ∙ upd1_map (open_bit area) _ i none)

          same : moved_to (view l) p i j f ≡ pack_table (view l) p (move_entry i j rows)
          same = λ x. record { k = with_slot (view l).k (slots x); opened = opened x; region = upd1 (view l).region p (λ r. rename i j ((view l).region p r)) }

-- ── all turns ──
-- at n, the words and the number are those of so many turns
pub record Packs (t : Table) (p n : ℕ) (l : List ℕ) (moved : ℕ) : Type 0 where
  pub within : n ≤ 32
  pub is : Is l (pack_table t p (carried (pack_slot (usable t.k p)) (packing_of t p 0) n))
  pub number : moved ≡ (carried (pack_slot (usable t.k p)) (packing_of t p 0) n).moved

-- a row put over a row
row_over : {A : Type 0} (f : ℕ → ℕ → A) (p : ℕ) (a b : ℕ → A) → upd1 (upd1 f p a) p b ≡ upd1 f p b
row_over f p a b = λ x q. at q (ℕ_discrete q p) x
  where
    at : (q : ℕ) → Dec (q ≡ p) → upd1 (upd1 f p a) p b q ≡ upd1 f p b q
    at q (yes z) = upd1_same (upd1 f p a) p b q z ∙ sym (upd1_same f p b q z)
    at q (no z) = upd1_other (upd1 f p a) p b q z ∙ upd1_other f p a q z ∙ sym (upd1_other f p b q z)

-- a turn on the table of s is a turn on s
turn_on : (t : Table) (p i : ℕ) (s : Packing)
    → pack_slot (usable (pack_table t p s).k p) i (packing_of (pack_table t p s) p s.moved) ≡ pack_slot (usable t.k p) i s
unfolding usable
turn_on t p i s = ap (pack_slot (usable t.k p) i) back
  where
    back : packing_of (pack_table t p s) p s.moved ≡ s
    back = λ x. record { slot = upd1_same t.k.slot p s.slot p refl x; region = upd1_same t.region p s.region p refl x; moved = s.moved }

pub pack_start : {l : List ℕ} {p : ℕ} → Canon l → Right (view l) → Packs (view l) p 0 l 0
pack_start {l} {p} c h = record {
  within = omega arith;
  is = subst (Is l) (put_back (view l) p 0 (λ m. sym ((right_settled h).bits p m)) ∙ ap (pack_table (view l) p) (sym first)) (canon_is c);
  number = ap (λ (s : Packing). s.moved) (sym first);
}
  where
    first : carried (pack_slot (usable (view l).k p)) (packing_of (view l) p 0) 0 ≡ packing_of (view l) p 0
    first = done_none (pack_slot (usable (view l).k p)) (packing_of (view l) p 0)

module _ {t : Table} {p n : ℕ} {l : List ℕ} {moved : ℕ} (inv : Packs t p n l moved) where
  abbrev so_far : Packing
  so_far = carried (pack_slot (usable t.k p)) (packing_of t p 0) n

  pub can_turn : p < 16 → n < 32 → CanPack l p n moved
  unfolding open_at
  can_turn b c = record {
    canon = is_canon inv.is;
    in_p = b;
    in_i = c;
    few = omega (arith, inv.number, packed_few (usable t.k p) (packing_of t p 0) n);
    bits = subst (λ (x : Table). (m : ℕ) → x.opened p m ≡ open_at x.k p m) (sym inv.is.viewed) bits;
  }
    where
      bits : (m : ℕ) → (pack_table t p so_far).opened p m ≡ open_at (pack_table t p so_far).k p m
      bits m = row_same t.opened p (λ i. open_bit t.k.area (so_far.slot i)) p m refl ∙ ap (open_bit t.k.area) (sym (row_same t.k.slot p so_far.slot p m refl))

  pub pack_more : {m : List ℕ} {r : ℕ} → n < 32 → Turned (view l) p n moved m r → Packs t p (n + 1) m r
  pack_more {m} {r} b h = record {
    within = omega arith;
    is = subst (Is m) (same ∙ ap (pack_table t p) (sym next)) turned.is;
    number = turned.number ∙ ap (λ (s : Packing). s.moved) (turn_on t p n so_far ∙ sym next);
  }
    where
      turned : Turned (pack_table t p so_far) p n so_far.moved m r
      turned = subst (λ (x : Table). Turned x p n so_far.moved m r) inv.is.viewed (subst (λ (k : ℕ). Turned (view l) p n k m r) inv.number h)

      next : carried (pack_slot (usable t.k p)) (packing_of t p 0) (n + 1) ≡ pack_slot (usable t.k p) n so_far
      next = done_more (pack_slot (usable t.k p)) (packing_of t p 0) n

      over : (s u : Packing) → pack_table (pack_table t p s) p u ≡ pack_table t p u
      over s u = λ x. record {
        k = with_slot t.k (row_over t.k.slot p s.slot u.slot x);
        opened = row_over t.opened p (λ i. open_bit t.k.area (s.slot i)) (λ i. open_bit t.k.area (u.slot i)) x;
        region = row_over t.region p s.region u.region x;
      }

      same : pack_table (pack_table t p so_far) p (pack_slot (usable (pack_table t p so_far).k p) n (packing_of (pack_table t p so_far) p so_far.moved))
          ≡ pack_table t p (pack_slot (usable t.k p) n so_far)
      same = over so_far turned_rows ∙ ap (pack_table t p) (turn_on t p n so_far)
        where
          turned_rows : Packing
          turned_rows = pack_slot (usable (pack_table t p so_far).k p) n (packing_of (pack_table t p so_far) p so_far.moved)

-- the table after the last turn is settled
pack_settled : {t : Table} → Right t → (p : ℕ) → Settled (pack_table t p (packed t p))
unfolding open_at
pack_settled {t} h p = record { bits = λ q i. bit q i (ℕ_discrete q p); names = λ q r i u. name q r i u (ℕ_discrete q p) }
  where
    slot : ℕ → Opt Entry
    slot = (packed t p).slot

    bit : (q i : ℕ) → Dec (q ≡ p) → open_at (pack_table t p (packed t p)).k q i ≡ (pack_table t p (packed t p)).opened q i
    bit q i (yes z) = ap (open_bit t.k.area) (row_same t.k.slot p slot q i z) ∙ sym (row_same t.opened p (λ i. open_bit t.k.area (slot i)) q i z)
    bit q i (no z) = ap (open_bit t.k.area) (row_other t.k.slot p slot q i z) ∙ (right_settled h).bits q i ∙ sym (row_other t.opened p (λ i. open_bit t.k.area (slot i)) q i z)

    name : (q r i : ℕ) → (pack_table t p (packed t p)).region q r ≡ some i → Dec (q ≡ p) → (pack_table t p (packed t p)).opened q i ≡ true
    name q r i u (yes z) =
        row_same t.opened p (λ i. open_bit t.k.area (slot i)) q i z
        ∙ packed_open (right_settled h) p r i (sym (row_same t.region p (packed t p).region q r z) ∙ u)
    name q r i u (no z) =
        row_other t.opened p (λ i. open_bit t.k.area (slot i)) q i z
        ∙ (right_settled h).names q r i (sym (row_other t.region p (packed t p).region q r z) ∙ u)

pub pack_end : {l m : List ℕ} {p n moved : ℕ} → Right (view l) → own_or_child (view l).k p ≡ true → Packs (view l) p n m moved → 32 ≤ n
    → Ran (pack (view l) p) l (Ok (moved, 0)) m
unfolding pack packed
pack_end {l} {m} {p} {n} h own inv b =
    let z : n ≡ 32 = omega (arith, inv.within) in
    let is : Is m (pack_table (view l) p (packed (view l) p)) = subst (λ (k : ℕ). Is m (pack_table (view l) p (carried (pack_slot (usable (view l).k p)) (packing_of (view l) p 0) k))) z inv.is in
    rw (inv.number, z) (ran_done (pass WrongPartition own refl) (settled_words is (pack_settled h p)))
