-- Merge keeps a table sound, and each partition holds the lines that it held; its answer is that of its conditions.
use Rattle.std.specs.Prelude.{◌≡◌, ◌⊎◌, ◌↔◌, true, ◌||◌, ℕ, ◌<◌, eqb}
use Rattle.std.proofs.Math.Path.{refl}
use Rattle.std.proofs.Common.{sym, ◌∙◌, inl, inr, ⊎_elim, arith, eqb-true, eq-eqb}
use Rattle.std.proofs.Math.Decide.{ℕ_discrete, dec_lt}
use Rattle.tables.specs.State.{Opt, none, some, Entry, K, Same, Table, ending_at}
use Rattle.tables.specs.Laws.State.{same, some_inj, not_none}
use Rattle.tables.specs.Update.{both?}
use Rattle.tables.specs.Lines.{In, Holds}
use Rattle.tables.specs.Settle.{settle}
use Rattle.sound.specs.Core.{Inside, Core}
use Rattle.sound.specs.Whole.{Right}
use Rattle.sound.specs.Clauses.{one_grant}
use Rattle.sound.specs.Laws.Properties.{core_rights}
use Rattle.sound.specs.Laws.Means.{eq_means, and_means}
use Rattle.sound.proofs.Laws.MeansEntries.{else_says, else_true, one_grant_means}
use Rattle.rules.specs.Rules.{done, unloaded, merge_k, merge}
use Rattle.isolation.specs.Laws.Two.{From, old, first, second, same_place, two_from, two_first, two_old, two_other}
use Rattle.isolation.specs.Laws.Checks.{FreeEntry}
use Rattle.isolation.specs.Laws.Keep.{same_clear, Has, still, itself, inside_at}
use Rattle.isolation.specs.Laws.Slots.{Fine, AroundStays, EntryCame, slots_core, around_stays, old_fine, old_came, came_equal}
use Rattle.isolation.specs.Laws.Settled.{right_loads, loads_unloaded, settle_right}
use Rattle.isolation.specs.Ladder.{Answers, finished, Ends}
use Rattle.isolation.specs.Laws.Ladder.{ends, check_answers, need_answers}
use Rattle.isolation.specs.Laws.Fits.{right_fit}
use Rattle.isolation.specs.Ladders.{MayJoin, merge_ladder}

-- what checks 4, 5, 6 (first, second), 11 (meet) and 12 (grant) say
pub record MergeOk (k : K) (s t : ℕ) (e f : Entry) : Type 0 where
  pub first : FreeEntry k s e
  pub second : FreeEntry k t f
  pub meet : e.stop ≡ f.start
  pub grant : MayJoin k e f

module _ {k : K} {s t : ℕ} {e f : Entry} (h : Core k) (ok : MergeOk k s t e f) where
  abbrev new : ℕ → ℕ → Opt Entry
  new = (merge_k k s t e f).slot

  -- the two joined
  abbrev both : Entry
  both = ending_at e f.stop

  abbrev Fr : ℕ → ℕ → Entry → Type 0
  Fr = From k.slot k.current s (some both) k.current t none

  inv : (p i : ℕ) (a : Entry) → new p i ≡ some a → Fr p i a
  inv = two_from k.slot k.current s _ k.current t _

  e_range : e.start < e.stop
  e_range = h.s5_range k.current s e ok.first.at

  f_range : f.start < f.stop
  f_range = h.s5_range k.current t f ok.second.at

  at_s : new k.current s ≡ some both
  at_s = two_first k.slot k.current s _ k.current t _ (λ q.
      let w = same_place k.slot ok.second.at ok.first.at q in
      omega (arith, e_range, f_range))

  stays : (p i : ℕ) (a : Entry) → k.slot p i ≡ some a → ((p ≡ k.current) × (i ≡ s) → ⊥) → ((p ≡ k.current) × (i ≡ t) → ⊥) → Has new p a
  stays p i a u y z = (i, two_old k.slot k.current s _ k.current t _ p i y z ∙ u)

  other_stays : (p i : ℕ) (a : Entry) → k.slot p i ≡ some a → (Same a e → ⊥) → (Same a f → ⊥) → Has new p a
  other_stays = two_other k.slot k.current s _ k.current t _ ok.first.at ok.second.at

  around : (p : ℕ) (a : Entry) → AroundStays k new p a
  around = around_stays k (λ p i a u n. other_stays p i a u (λ w. n (w.given ∙ ok.first.free)) (λ w. n (w.given ∙ ok.second.free)))

  -- a line of both is a line of e or of f
  halves : (l : ℕ) → In l both → In l e ⊎ In l f
  halves l x = go (dec_lt l e.stop)
    where
      go : Dec (l < e.stop) → In l e ⊎ In l f
      go (yes z) = inl (omega arith)
      go (no z) = inr (omega arith)

  new_holds : (p l : ℕ) → Holds new p l → Holds k.slot p l
  new_holds p l u = go (inv p u.i u.e u.at)
    where
      half : p ≡ k.current → In l e ⊎ In l f → Holds k.slot p l
      half z (inl x) = record { i = s; e = e; at = rw z ok.first.at; holds = x }
      half z (inr x) = record { i = t; e = f; at = rw z ok.second.at; holds = x }

      go : Fr p u.i u.e → Holds k.slot p l
      go (old v _ _) = still u (u.i, v)
      go (first z _ v) = let w = same (some_inj v) in half z (halves l (omega arith))
      go (second _ _ v) = not_none none refl v

  holds_new : (p l : ℕ) → Holds k.slot p l → Holds new p l
  holds_new p l u = go (both? k.current s p u.i) (both? k.current t p u.i)
    where
      go : Dec ((p ≡ k.current) × (u.i ≡ s)) → Dec ((p ≡ k.current) × (u.i ≡ t)) → Holds new p l
      go (no y) (no z) = still u (stays p u.i u.e u.at y z)
      go (yes z) _ =
          let w = same_place k.slot ok.first.at u.at z in
          record { i = s; e = both; at = rw z.0 at_s; holds = omega (arith, f_range) }
      go (no _) (yes z) =
          let w = same_place k.slot ok.second.at u.at z in
          record { i = s; e = both; at = rw z.0 at_s; holds = omega (arith, e_range) }

  -- what is around e is around both: only one entry of the parent has e's first line
  around_both : (k.current ≡ 0 → ⊥) → Inside k.slot k.parent k.current both
  around_both n =
      let (j, g, a, b) = ok.grant n in
      let o = h.s7_in k.current s e ok.first.at n in
      let r = e_range in
      let i : o.i ≡ j = h.s6 (k.parent k.current) o.i j o.f g e.start o.at a.at (omega arith) (omega arith) in
      let w = same_place k.slot a.at o.at (refl, i) in
      record { i = o.i; f = o.f; at = o.at; given = o.given; from = o.from; to = omega arith; sub = o.sub }

  -- merge never reaches a whole entry: it is the one that was given, and has no room for another inside it
  pub merge_plain : (e.whole ≡ true → ⊥) × (f.whole ≡ true → ⊥)
  merge_plain = (
    λ z.
        let w = h.s7_whole_law k.current s e ok.first.at z in
        let (j, g, a, b) = ok.grant w.other in
        let d = one j g w.i w.f e.start a.at w.at (omega (arith, e_range, a.around)) (omega (arith, e_range, w.start, w.stop)) in
        omega (arith, e_range, f_range, b.around, w.stop),
    λ z.
        let w = h.s7_whole_law k.current t f ok.second.at z in
        let (j, g, a, b) = ok.grant w.other in
        let d = one j g w.i w.f f.start b.at w.at (omega (arith, f_range, b.around)) (omega (arith, f_range, w.start, w.stop)) in
        omega (arith, e_range, f_range, a.around, w.start),
  )
    where
      -- two entries of the parent with one line
      one : (j : ℕ) (g : Entry) (i : ℕ) (o : Entry) (l : ℕ) → k.slot (k.parent k.current) j ≡ some g → k.slot (k.parent k.current) i ≡ some o
          → In l g → In l o → Same g o
      one j g i o l u v x y = same_place k.slot v u (refl, h.s6 (k.parent k.current) j i g o l u v x y)

  fine : (p i : ℕ) (a : Entry) → new p i ≡ some a → Fine k new p i a
  fine p i a u = go (inv p i a u)
    where
      joined : p ≡ k.current → i ≡ s → Fine k new p i both
      joined z y = record {
        structure = rw (z, y) (h.s5 k.current s e ok.first.at);
        range = omega (arith, e_range, f_range);
        lent = λ n. absurd (n ok.first.free);
        inside = λ n. let o = around_both (λ y. n (z ∙ y)) in rw z (inside_at refl (itself both) o (around k.current both (λ y. n (z ∙ y)) o));
        root = λ x. h.s11 s e (rw (sym z ∙ x) at ok.first.at);
        whole = λ x. absurd (merge_plain.0 x);
      }

      go : Fr p i a → Fine k new p i a
      go (old v _ _) = old_fine h v (λ _ l _. holds_new a.given l) (around p a)
      go (first z y v) = rw (← (some_inj v)) (joined z y)
      go (second _ _ v) = not_none none refl v

  apart : (p i j : ℕ) (a b : Entry) (l : ℕ) → new p i ≡ some a → new p j ≡ some b → In l a → In l b → i ≡ j
  apart p i j a b l u v x y = go (inv p i a u) (inv p j b v)
    where
      -- an old entry with a line of both is slot s or t
      clash : (i : ℕ) (a : Entry) → p ≡ k.current → k.slot p i ≡ some a → ((p ≡ k.current) × (i ≡ s) → ⊥) → ((p ≡ k.current) × (i ≡ t) → ⊥)
          → In l a → In l both → ⊥
      clash i a z u m n x y = ⊎_elim
          (λ w. m (z, h.s6 p i s a e l u (rw z ok.first.at) x w))
          (λ w. n (z, h.s6 p i t a f l u (rw z ok.second.at) x w))
          (halves l y)

      go : Fr p i a → Fr p j b → i ≡ j
      go (old u _ _) (old v _ _) = h.s6 p i j a b l u v x y
      go (old u m n) (first q _ v) = let w = same (some_inj v) in absurd (clash i a q u m n x (omega arith))
      go (first q _ u) (old v m n) = let w = same (some_inj u) in absurd (clash j b q v m n y (omega arith))
      go (first _ r _) (first _ r' _) = r ∙ sym r'
      go (second _ _ u) _ = not_none none refl u
      go (old _ _ _) (second _ _ v) = not_none none refl v
      go (first _ _ _) (second _ _ v) = not_none none refl v

  -- both has the rights of e, and its first line
  came : (p i : ℕ) (a : Entry) → new p i ≡ some a → EntryCame k new p a
  came p i a u = go (inv p i a u)
    where
      go : Fr p i a → EntryCame k new p a
      go (old v _ _) = old_came h v (around p a)
      go (first z _ v) =
          let w = same (some_inj v) in
          let x = e_range in
          let y = f_range in
          record { j = s; e = e; at = rw z ok.first.at; line = e.start; was = omega arith; now = omega arith; rights = sym w.rights; stays = around p e }
      go (second _ _ v) = not_none none refl v

  -- e and f have equal rights, so both has those of f too: no check asks for it
  pub merge_rights : e.rights ≡ f.rights
  merge_rights = go (ℕ_discrete k.current 0)
    where
      go : Dec (k.current ≡ 0) → e.rights ≡ f.rights
      go (yes z) = (core_rights h).root s t e f (rw z at ok.first.at) (rw z at ok.second.at)
      go (no n) = (core_rights h).child k.current s t e f n ok.first.at ok.second.at (ok.grant n)

  -- the ledger's line: each partition holds the lines that it held
  pub merge_holds : (p l : ℕ) → Holds (merge_k k s t e f).slot p l ↔ Holds k.slot p l
  merge_holds p l = (new_holds p l, holds_new p l)

  pub merge_core : Core (merge_k k s t e f)
  merge_core = slots_core h (record {
    fine = fine;
    apart = apart;
    root = merge_holds 0;
    closed = λ p i a u _ z. other_stays p i a u
        (λ w. z (same_clear w ok.first.clear))
        (λ w. z (same_clear w ok.second.clear));
    equal = λ p i m a b n u v. came_equal h apart n (came p i a u) (came p m b v);
  })

-- ── the service ──
abbrev pub MergeDone : Table → ℕ → ℕ → ℕ → ℕ → Table → Type 0
MergeDone t s u v w t' = (e f : Entry) × MergeOk t.k s u e f × (t' ≡ settle (merge_k t.k s u e f) (unloaded t.region t.k.current (λ i. eqb i s || eqb i u)))

module _ {t : Table} (h : Right t) (s u : ℕ) where
  grant_means : (e f : Entry) → (eqb t.k.current 0 || one_grant t.k t.k.current e f ≡ true) ↔ MayJoin t.k e f
  grant_means e f =
      let m = one_grant_means t.k (λ p i e u. ((right_fit h).slot p i e u).1) t.k.current e f in (
        λ q n. m.0 (else_says _ _ q (λ z. n (eqb-true _ 0 z))),
        λ c. else_true _ _ (λ z. m.1 (c (λ q. z (eq-eqb _ 0 q)))),
      )

  pub merge_exact : Answers (merge_ladder t s u) (merge t s u)
  unfolding merge
  merge_exact =
      need_answers λ e x.
      need_answers λ f y.
      check_answers (and_means (h.s9 t.k.current s e x) (h.s9 t.k.current u f y)) λ _.
      check_answers (and_means (eq_means e.given 0) (eq_means f.given 0)) λ _.
      check_answers (eq_means e.stop f.start) λ _.
      check_answers (grant_means e f) λ _.
      finished

  pub merge_done : {v w : ℕ} {t' : Table} → merge t s u ≡ done v w t' → MergeDone t s u v w t'
  unfolding Ends
  merge_done = ends (MergeDone t s u) merge_exact (λ e x f y o z m g. (
    e,
    f,
    record {
      first = record { at = x; clear = o.0; free = z.0 };
      second = record { at = y; clear = o.1; free = z.1 };
      meet = m;
      grant = g;
    },
    refl,
  ))

  pub merge_right : {v w : ℕ} {t' : Table} → merge t s u ≡ done v w t' → Right t'
  merge_right x = let (e, f, ok, z) = merge_done x in rw z (settle_right (merge_core h.core ok) h.stop (loads_unloaded (right_loads h) t.k.current (λ i. eqb i s || eqb i u)))
