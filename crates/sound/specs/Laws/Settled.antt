-- A right table is settled. So is it after a call that changes nothing but which partition is current, a region that then names an open slot or none, or an entry that stays open.
use Rattle.std.specs.Prelude.{◌≡◌, refl, Bool, List, ◌⊎◌, ℕ, ◌/◌, ◌%◌, ◌≤◌, ◌<◌, ltb}
use Rattle.std.proofs.Common.{ap, subst, ◌∙◌, inl, inr, arith, ltb-true, ltb-false}
use Rattle.std.proofs.Math.Path.{sym}
use Rattle.std.proofs.Math.Bool.{true, false}
use Rattle.std.proofs.Math.Decide.{ℕ_discrete}
use Rattle.loops.specs.Laws.Every.{bool_ext}
use Rattle.tables.specs.State.{Opt, none, some, Entry, Area, K, Table}
use Rattle.tables.specs.Laws.State.{some_inj, not_none}
use Rattle.tables.specs.Update.{both?, upd, upd1}
use Rattle.tables.specs.Laws.Update.{upd_same, upd_other, upd_from, row_same, row_other}
use Rattle.tables.specs.View.{view}
use Rattle.tables.specs.Encode.{encode, Is}
use Rattle.tables.specs.Write.{put_slot, put_region, put_current}
use Rattle.tables.specs.Kept.{keep_regions}
use Rattle.tables.specs.Laws.Kept.{keep_same, keep_some}
use Rattle.tables.specs.Lines.{InA}
use Rattle.tables.specs.Settle.{clear, open_bit, open_at, keep, settle, settled}
use Rattle.sound.specs.Laws.Meets.{clear_means, open_clear}
use Rattle.sound.specs.Whole.{Right}

-- ── ranges that share no line with an area ──
module _ (area : ℕ → ℕ → Opt Area) where
  -- a part of one
  pub clear_part : (a b c d : ℕ) → clear area a d ≡ true → a ≤ b → c ≤ d → clear area b c ≡ true
  clear_part a b c d q s t = (clear_means area b c).1 (λ n h x l u i v w. (clear_means area a d).0 q n h x l u i (omega arith) (omega arith))

  -- two that touch, as one
  pub clear_both : (a b c : ℕ) → clear area a b ≡ true → clear area b c ≡ true → clear area a c ≡ true
  clear_both a b c q r = (clear_means area a c).1 (λ n h x l u i v w. go n h x l u i v w (ltb l b) refl)
    where
      go : (n : ℕ) → n < 80 → (x : Area) (l : ℕ) → area (n / 5) (n % 5) ≡ some x → InA l x → a ≤ l → l < c → (y : Bool) → ltb l b ≡ y → ⊥
      go n h x l u i v w true e = (clear_means area a b).0 q n h x l u i v (ltb-true l b e)
      go n h x l u i v w false e = (clear_means area b c).0 r n h x l u i (ltb-false l b e) w

-- the open bits are those of S9, and no region names a slot that is not open: nothing is left to settle
pub record Settled (t : Table) : Type 0 where
  pub bits : (p i : ℕ) → open_at t.k p i ≡ t.opened p i
  pub names : (p r i : ℕ) → t.region p r ≡ some i → t.opened p i ≡ true

pub settled_same : {t : Table} → Settled t → settled t ≡ t
unfolding settle
settled_same {t} h = λ x. record { k = t.k; opened = λ p i. h.bits p i x; region = λ p r. keep_same (open_at t.k p) (t.region p r) (λ i u. h.bits p i ∙ h.names p r i u) x }

pub settle_settled : (k : K) (region : ℕ → ℕ → Opt ℕ) → Settled (settle k region)
unfolding settle
settle_settled k region = record { bits = λ p i. refl; names = λ p r i u. (keep_some (open_at k p) (region p r) i u).1 }

-- so the words of it are those of the settled one
pub settled_words : {l : List ℕ} {t : Table} → Is l t → Settled t → l ≡ encode (settled t)
settled_words was h = sym (ap encode (settled_same h) ∙ was.encoded)

-- ── slot i of p holds ──
module _ {t : Table} (h : Settled t) where
  -- an entry is as open as it is clear
  pub entry_clear : {p i : ℕ} {e : Entry} → t.k.slot p i ≡ some e → clear t.k.area e.start e.stop ≡ t.opened p i
  unfolding open_at open_bit
  entry_clear {p} {i} u = rw u at (h.bits p i)

  put_bits : (p i : ℕ) (x : Opt Entry) (o : Bool) → open_bit t.k.area x ≡ o → (q j : ℕ) → open_at (put_slot t p i x o).k q j ≡ (put_slot t p i x o).opened q j
  unfolding open_at
  put_bits p i x o b q j = at (both? p i q j)
    where
      at : Dec ((q ≡ p) × (j ≡ i)) → open_bit t.k.area (upd t.k.slot p i x q j) ≡ upd t.opened p i o q j
      at (yes z) = rw (upd_same t.k.slot p i x q j z, upd_same t.opened p i o q j z) b
      at (no z) = rw (upd_other t.k.slot p i x q j z, upd_other t.opened p i o q j z) (h.bits q j)

  -- an entry, open where the slot was
  pub put_settled : (p i : ℕ) (e : Entry) (o : Bool) → clear t.k.area e.start e.stop ≡ o → (t.opened p i ≡ true → o ≡ true) → Settled (put_slot t p i (some e) o)
  unfolding open_bit
  put_settled p i e o c stays = record { bits = put_bits p i (some e) o c; names = λ q r j u. at q j (h.names q r j u) (both? p i q j) }
    where
      at : (q j : ℕ) → t.opened q j ≡ true → Dec ((q ≡ p) × (j ≡ i)) → upd t.opened p i o q j ≡ true
      at q j w (yes z) = upd_same t.opened p i o q j z ∙ stays (rw (← z.0, ← z.1) w)
      at q j w (no z) = upd_other t.opened p i o q j z ∙ w

  -- no entry: settle does no more than drop regions of p
  empty_same : (p i : ℕ) → settled (put_slot t p i none false) ≡ keep_regions (put_slot t p i none false) p
  unfolding open_bit settle
  empty_same p i = λ x. record { k = new.k; opened = λ q j. bit q j x; region = λ q r. at q r (ℕ_discrete q p) x }
    where
      new : Table
      new = put_slot t p i none false

      bit : (q j : ℕ) → open_at new.k q j ≡ new.opened q j
      bit = put_bits p i none false refl

      kept : ℕ → Opt ℕ
      kept r = keep (new.opened p) (t.region p r)

      at : (q r : ℕ) → Dec (q ≡ p) → keep (open_at new.k q) (t.region q r) ≡ upd1 t.region p kept q r
      at q r (yes z) =
          ap (λ (y : ℕ). keep (open_at new.k y) (t.region y r)) z
          ∙ ap (λ (o : ℕ → Bool). keep o (t.region p r)) (λ x j. bit p j x)
          ∙ sym (row_same t.region p kept q r z)
      at q r (no z) =
          keep_same (open_at new.k q) (t.region q r) (λ j u. bit q j ∙ upd_other t.opened p i false q j (λ w. z w.0) ∙ h.names q r j u)
          ∙ sym (row_other t.region p kept q r z)

  -- and with those dropped nothing is left to settle
  pub emptied_settled : (p i : ℕ) → Settled (keep_regions (put_slot t p i none false) p)
  emptied_settled p i = subst Settled (empty_same p i) (settle_settled (put_slot t p i none false).k t.region)

  -- so the words of it, with those dropped, are those of the settled one
  pub empty_words : {l m : List ℕ} (p i : ℕ) → Is l (put_slot t p i none false) → Is m (keep_regions (view l) p) → m ≡ encode (settled (put_slot t p i none false))
  empty_words p i was kept = sym (ap encode (empty_same p i ∙ ap (λ (x : Table). keep_regions x p) (sym was.viewed)) ∙ kept.encoded)

module _ {t : Table} (h : Right t) where
  pub right_settled : Settled t
  unfolding open_at open_bit
  right_settled = record { bits = λ p i. at p i (t.k.slot p i) refl; names = λ p r i u. ((h.s10 p).names r i u).1 }
    where
      at : (p i : ℕ) (y : Opt Entry) → t.k.slot p i ≡ y → open_bit t.k.area y ≡ t.opened p i
      at p i none u = sym (h.closed p i u)
      at p i (some e) u =
          let c = open_clear t.k.area h.core.s2_range e in
          bool_ext _ _ (λ q. (h.s9 p i e u).1 (c.0 q)) (λ q. c.1 ((h.s9 p i e u).0 q))

  pub current_settled : (c : ℕ) → Settled (put_current t c)
  unfolding open_at
  current_settled c = record { bits = right_settled.bits; names = right_settled.names }

  -- region r of p names x, which is open, or nothing
  pub region_settled : (p r : ℕ) (x : Opt ℕ) → ((i : ℕ) → x ≡ some i → t.opened p i ≡ true) → Settled (put_region t p r x)
  region_settled p r x f = record { bits = right_settled.bits; names = λ q s i u. from q s i (upd_from t.region p r x q s u) }
    where
      from : (q s i : ℕ) → ((q ≡ p) × (s ≡ r) × (x ≡ some i)) ⊎ (((q ≡ p) × (s ≡ r) → ⊥) × (t.region q s ≡ some i)) → t.opened q i ≡ true
      from q s i (inl (z, _, u)) = rw z (f i u)
      from q s i (inr (_, u)) = right_settled.names q s i u

  pub load_settled : (p r s : ℕ) → t.opened p s ≡ true → Settled (put_region t p r (some s))
  load_settled p r s o = region_settled p r (some s) (λ i u. rw (← (some_inj u)) o)

  pub unload_settled : (p r : ℕ) → Settled (put_region t p r none)
  unload_settled p r = region_settled p r none (λ i u. not_none none refl u)
