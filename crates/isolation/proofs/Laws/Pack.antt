-- Pack keeps a table sound, and each partition holds the lines that it held; a second pack moves none; its answer is that of its conditions.
use Rattle.std.specs.Prelude.{◌≡◌, ◌↔◌, ℕ, ◌+◌, ◌/◌, ◌<◌}
use Rattle.std.proofs.Math.Path.{refl, ap, sym}
use Rattle.std.proofs.Common.{◌∙◌}
use Rattle.std.proofs.Math.Bool.{true}
use Rattle.std.proofs.Math.Decide.{ℕ_discrete}
use Rattle.tables.specs.State.{Opt, none, some, Entry, Area, Table}
use Rattle.tables.specs.Laws.State.{not_none}
use Rattle.tables.specs.Laws.Update.{upd1_same, upd1_other, row_same, row_other, upd1_keep}
use Rattle.tables.specs.Search.{is_some, present, child}
use Rattle.tables.specs.Lines.{In, Holds}
use Rattle.tables.specs.Settle.{open_at, settle}
use Rattle.sound.proofs.Laws.MeansEntries.{is_some_means}
use Rattle.sound.specs.Core.{Core}
use Rattle.sound.specs.Whole.{Right}
use Rattle.sound.specs.Laws.Settled.{right_settled, settled_same}
use Rattle.rules.specs.Pack.{usable, packing_of, packed}
use Rattle.rules.proofs.Laws.Pack.{Lowered, lowered_same, packed_lowered, Roomy, packed_roomy, packed_apart, packed_once, packed_loaded, packed_open, Tight, packed_tight, tight_same}
use Rattle.rules.specs.Rules.{done, pack_k, pack_region, own_or_child, pack}
use Rattle.rules.specs.Laws.Ran.{pass}
use Rattle.isolation.specs.Laws.Settled.{Loads, settle_right}
use Rattle.isolation.specs.Ladder.{Answers, finished, Ends}
use Rattle.isolation.specs.Laws.Ladder.{ends, check_answers}
use Rattle.isolation.specs.Ladders.{OwnOrChild, pack_ladder}
use Rattle.isolation.specs.Laws.Checks.{own_means}
use Rattle.isolation.specs.Laws.Keep.{given_child, Has, still, itself}
use Rattle.isolation.specs.Laws.Slots.{Fine, AroundStays, EntryCame, slots_core, whole_stays, part_fine, old_came, came_equal}
use Rattle.words.specs.declared.Refusal.TheVariants.{WrongPartition}

-- ── entries ──
module _ {t : Table} (h : Right t) (p : ℕ) where
  abbrev new : ℕ → ℕ → Opt Entry
  new = (pack_k t p).slot

  -- the entries of every partition are those that it had
  pub pack_lowered : (q : ℕ) → Lowered (t.k.slot q) (new q)
  unfolding packed
  pack_lowered q = go (ℕ_discrete q p)
    where
      go : Dec (q ≡ p) → Lowered (t.k.slot q) (new q)
      go (yes z) = rw (upd1_same t.k.slot p (packed t p).slot q z, z) (packed_lowered (usable t.k p) (packing_of t p 0))
      go (no z) = rw (upd1_other t.k.slot p (packed t p).slot q z) (lowered_same (t.k.slot q))

  stays : (q i : ℕ) (e : Entry) → t.k.slot q i ≡ some e → Has new q e
  stays q i e u = let (m, _, v) = (pack_lowered q).now i e u in (m, v)

  around : (q : ℕ) (e : Entry) → AroundStays t.k new q e
  around q e _ o = stays (t.k.parent q) o.i o.f o.at

  -- the ledger's line: each partition holds the lines that it held
  pub pack_holds : (q l : ℕ) → Holds new q l ↔ Holds t.k.slot q l
  pack_holds q l = (
    λ u. let (n, _, v) = (pack_lowered q).was u.i u.e u.at in still u (n, v),
    λ u. still u (stays q u.i u.e u.at),
  )

  -- entries stand in usable slots
  pub entries_roomy : Roomy (usable t.k p) (t.k.slot p)
  unfolding usable
  entries_roomy m a v = (is_some_means (t.k.area p (1 + m / 8))).1 (h.core.s5 p m a v)

  room : (q i : ℕ) (e : Entry) → new q i ≡ some e → (a : Area) × (t.k.area q (1 + i / 8) ≡ some a)
  unfolding packed usable
  room q i e u = go (ℕ_discrete q p)
    where
      go : Dec (q ≡ p) → (a : Area) × (t.k.area q (1 + i / 8) ≡ some a)
      go (yes z) =
          let v = sym (row_same t.k.slot p (packed t p).slot q i z) ∙ u in
          rw z ((is_some_means (t.k.area p (1 + i / 8))).0 (packed_roomy (usable t.k p) (packing_of t p 0) entries_roomy i e v))
      go (no z) = h.core.s5 q i e (sym (row_other t.k.slot p (packed t p).slot q i z) ∙ u)

  apart : (q i j : ℕ) (a b : Entry) (l : ℕ) → new q i ≡ some a → new q j ≡ some b → In l a → In l b → i ≡ j
  unfolding packed
  apart q i j a b l u v = go (ℕ_discrete q p)
    where
      go : Dec (q ≡ p) → In l a → In l b → i ≡ j
      go (yes z) =
          packed_apart (usable t.k p) (packing_of t p 0) (h.core.s6 p) i j a b l
          (sym (row_same t.k.slot p (packed t p).slot q i z) ∙ u) (sym (row_same t.k.slot p (packed t p).slot q j z) ∙ v)
      go (no z) =
          h.core.s6 q i j a b l
          (sym (row_other t.k.slot p (packed t p).slot q i z) ∙ u) (sym (row_other t.k.slot p (packed t p).slot q j z) ∙ v)

  fine : (q i : ℕ) (a : Entry) → new q i ≡ some a → Fine t.k new q i a
  fine q i a u =
      let (n, _, v) = (pack_lowered q).was i a u in
      part_fine h.core v (itself a) (room q i a u) (h.core.s5_range q n a v)
      (λ g. record { child = given_child h.core q n a v g; cover = λ l x. (pack_holds a.given l).1 (h.core.s7_cover_law q n a l v g x) }) (whole_stays h.core v (around q a)) (around q a)

  came : (q i : ℕ) (a : Entry) → new q i ≡ some a → EntryCame t.k new q a
  came q i a u = let (n, _, v) = (pack_lowered q).was i a u in old_came h.core v (around q a)

  pub pack_core : Core (pack_k t p)
  pack_core = slots_core h.core (record {
    fine = fine;
    apart = apart;
    root = pack_holds 0;
    closed = λ q i e u _ _. stays q i e u;
    equal = λ q i j a b n u v. came_equal h.core apart n (came q i a u) (came q j b v);
  })

-- ── regions ──
module _ {t : Table} (h : Right t) (p : ℕ) where
  -- a region names an open slot
  names_open : (q r i : ℕ) → pack_region t p q r ≡ some i → open_at (pack_k t p) q i ≡ true
  unfolding open_at
  names_open q r i u = go (ℕ_discrete q p)
    where
      go : Dec (q ≡ p) → open_at (pack_k t p) q i ≡ true
      go (yes z) =
          rw (row_same t.k.slot p (packed t p).slot q i z)
          (packed_open (right_settled h) p r i (sym (row_same t.region p (packed t p).region q r z) ∙ u))
      go (no z) =
          rw (row_other t.k.slot p (packed t p).slot q i z)
          ((right_settled h).bits q i ∙ (right_settled h).names q r i (sym (row_other t.region p (packed t p).region q r z) ∙ u))

  -- so nothing is left to settle
  abbrev after : Table
  after = record { k = pack_k t p; opened = open_at (pack_k t p); region = pack_region t p }

  pub pack_settled : settle (pack_k t p) (pack_region t p) ≡ after
  pack_settled = settled_same (record { bits = λ q i. refl; names = names_open })

  -- a region names an entry
  full : (r m : ℕ) → t.region p r ≡ some m → t.k.slot p m ≡ none → ⊥
  full r m u z = let ((e, v), _) = (h.s10 p).names r m u in not_none (t.k.slot p m) z v

  pack_loads : Loads (pack_region t p)
  unfolding packed
  pack_loads = record { eight = λ q r i u. eight q r i u (ℕ_discrete q p); once = λ q r m i u v. once q r m i u v (ℕ_discrete q p) }
    where
      eight : (q r i : ℕ) → pack_region t p q r ≡ some i → Dec (q ≡ p) → r < 8
      eight q r i u (yes z) =
          let v = sym (row_same t.region p (packed t p).region q r z) ∙ u in
          let w = sym (packed_loaded (usable t.k p) (packing_of t p 0) r) ∙ ap is_some v in
          let (m, x) = (is_some_means (t.region p r)).0 w in
          h.eight p r m x
      eight q r i u (no z) = h.eight q r i (sym (row_other t.region p (packed t p).region q r z) ∙ u)

      once : (q r m i : ℕ) → pack_region t p q r ≡ some i → pack_region t p q m ≡ some i → Dec (q ≡ p) → r ≡ m
      once q r m i u v (yes z) =
          packed_once (usable t.k p) (packing_of t p 0) full (h.s10 p).once r m i
          (sym (row_same t.region p (packed t p).region q r z) ∙ u) (sym (row_same t.region p (packed t p).region q m z) ∙ v)
      once q r m i u v (no z) =
          (h.s10 q).once r m i (sym (row_other t.region p (packed t p).region q r z) ∙ u) (sym (row_other t.region p (packed t p).region q m z) ∙ v)

-- ── the service ──
abbrev pub PackDone : Table → ℕ → ℕ → ℕ → Table → Type 0
PackDone t p v w t' = OwnOrChild t.k p × (v ≡ (packed t p).moved) × (t' ≡ settle (pack_k t p) (pack_region t p))

module _ {t : Table} (h : Right t) (p : ℕ) where
  pub pack_exact : Answers (pack_ladder t p) (pack t p)
  unfolding pack
  pack_exact = check_answers (own_means t.k p) λ _. finished

  pub pack_done : {v w : ℕ} {t' : Table} → pack t p ≡ done v w t' → PackDone t p v w t'
  unfolding Ends
  pack_done = ends (PackDone t p) pack_exact (λ c. (c, refl, refl))

  pub pack_right : {v w : ℕ} {t' : Table} → pack t p ≡ done v w t' → Right t'
  pack_right x = let (_, _, z) = pack_done x in rw z (settle_right (pack_core h p) h.stop (pack_loads h p))

  -- no free slot is left below an entry of p
  pub pack_tight : Tight (usable t.k p) ((pack_k t p).slot p) 32
  unfolding packed
  pack_tight = rw (upd1_same t.k.slot p (packed t p).slot p refl) (packed_tight (usable t.k p) (packing_of t p 0))

  -- so a second pack moves none, and changes nothing
  again : packed (after h p) p ≡ packing_of (after h p) p 0
  unfolding packed usable
  again = tight_same (usable t.k p) (packing_of (after h p) p 0) pack_tight

  pub pack_twice : {v w : ℕ} {t' : Table} → pack t p ≡ done v w t' → pack t' p ≡ done 0 0 t'
  unfolding pack own_or_child child present
  pack_twice x = let (c, _, z) = pack_done x in rw (z ∙ pack_settled h p) (same c)
    where
      same : OwnOrChild t.k p → pack (after h p) p ≡ done 0 0 (after h p)
      same c = pass WrongPartition ((own_means t.k p).1 c) (rw (again, upd1_keep (after h p).k.slot p, upd1_keep (after h p).region p, pack_settled h p) refl)
