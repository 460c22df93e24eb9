-- Give keeps a table sound, and the child then holds the lines of the entry too; its answer is that of its conditions.
use Rattle.std.specs.Prelude.{◌≡◌, refl, ◌⊎◌, ◌↔◌, Bool, false, ℕ}
use Rattle.std.proofs.Common.{sym, ◌∙◌, inl, inr, arith}
use Rattle.std.proofs.lemmas.Bool.{false≢true}
use Rattle.words.specs.declared.Rights.{Rights}
use Rattle.tables.specs.State.{Opt, some, Entry, K, Table, given_to, range_of}
use Rattle.tables.specs.Laws.State.{same, some_inj}
use Rattle.tables.specs.Update.{both?}
use Rattle.tables.specs.Lines.{In, Holds}
use Rattle.tables.specs.Settle.{settle}
use Rattle.sound.specs.Sound.{Sub}
use Rattle.sound.specs.Core.{Inside, Core}
use Rattle.sound.specs.Properties.{Child}
use Rattle.sound.specs.Whole.{Right}
use Rattle.sound.proofs.Laws.MeansRegions.{within_means}
use Rattle.rules.specs.Rules.{give_k, done, give}
use Rattle.isolation.specs.Laws.Two.{From, old, first, second, same_place, two_from, two_second}
use Rattle.isolation.specs.Laws.Checks.{FreeEntry, free_answers, unset_means, is_child_means, free_means}
use Rattle.isolation.specs.Ladders.{FreeSlot, give_ladder}
use Rattle.isolation.specs.Laws.Keep.{child_other, still}
use Rattle.isolation.specs.Laws.Slots.{Fine, AroundStays, EntryCame, slots_core, around_stays, part_fine, old_fine, old_came, came_equal}
use Rattle.isolation.specs.Laws.Written.{first_at_law, stays_at, given_stays, closed_stays}
use Rattle.isolation.specs.Laws.Settled.{right_loads, settle_right}
use Rattle.isolation.specs.Ladder.{Answers, finished, Ends}
use Rattle.isolation.specs.Laws.Ladder.{ends, check_answers, lowest_answers}

-- what checks 3 (child), 4, 5, 6 (entry), 8 (slot), 10 (rights) and 18 (plain) say
pub record GiveOk (k : K) (c s n : ℕ) (r : Rights) (e : Entry) : Type 0 where
  pub child : Child k k.current c
  pub entry : FreeEntry k s e
  pub slot : FreeSlot k c n
  pub rights : Sub r e.rights
  pub plain : e.whole ≡ false

module _ {k : K} {c s n : ℕ} {r : Rights} {e : Entry} (mark : Bool) (h : Core k) (ok : GiveOk k c s n r e) where
  abbrev new : ℕ → ℕ → Opt Entry
  new = (give_k k c s n r mark e).slot

  abbrev Fr : ℕ → ℕ → Entry → Type 0
  Fr = From k.slot k.current s (some (given_to e c)) c n (some (range_of e r mark))

  inv : (p i : ℕ) (a : Entry) → new p i ≡ some a → Fr p i a
  inv = two_from k.slot k.current s _ c n _

  at_s : new k.current s ≡ some (given_to e c)
  at_s = first_at_law ok.entry ok.slot _ _

  at_n : new c n ≡ some (range_of e r mark)
  at_n = two_second k.slot k.current s _ c n _

  -- the child held no line of it before
  fresh : (i : ℕ) (f : Entry) (l : ℕ) → k.slot c i ≡ some f → In l f → In l e → ⊥
  fresh i f l u x y =
      let o = h.s7_in c i f u ok.child.other in
      let v : k.slot k.current o.i ≡ some o.f = rw ok.child.parent at o.at in
      let j : o.i ≡ s = h.s6 k.current o.i s o.f e l v ok.entry.at (omega arith) y in
      let w = same_place k.slot ok.entry.at v (refl, j) in
      ok.child.other (sym o.given ∙ w.given ∙ ok.entry.free)

  around : (p : ℕ) (a : Entry) → AroundStays k new p a
  around = around_stays k (given_stays ok.entry ok.slot _ _)

  new_holds : (p l : ℕ) → Holds new p l → Holds k.slot p l ⊎ ((p ≡ c) × In l e)
  new_holds p l u = go (inv p u.i u.e u.at)
    where
      go : Fr p u.i u.e → Holds k.slot p l ⊎ ((p ≡ c) × In l e)
      go (old v _ _) = inl (still u (u.i, v))
      go (first z _ v) = let w = same (some_inj v) in inl (record { i = s; e = e; at = rw z ok.entry.at; holds = omega arith })
      go (second z _ v) = let w = same (some_inj v) in inr (z, omega arith)

  holds_new : (p l : ℕ) → Holds k.slot p l → Holds new p l
  holds_new p l u = go (both? k.current s p u.i)
    where
      go : Dec ((p ≡ k.current) × (u.i ≡ s)) → Holds new p l
      go (no z) = still u (stays_at ok.entry ok.slot _ _ p u.i u.e u.at z)
      go (yes z) =
          let w = same_place k.slot ok.entry.at u.at z in
          record { i = s; e = given_to e c; at = rw z.0 at_s; holds = omega arith }

  fine : (p i : ℕ) (a : Entry) → new p i ≡ some a → Fine k new p i a
  fine p i a u = go (inv p i a u)
    where
      at : p ≡ k.current → k.slot p s ≡ some e
      at z = rw z ok.entry.at

      go : Fr p i a → Fine k new p i a
      go (old v _ _) = old_fine h v (λ _ l _. holds_new a.given l) (around p a)
      go (first z y v) =
          let w = same (some_inj v) in
          let x = h.s5_range p s e (at z) in
          part_fine h (at z) (record { from = omega arith; to = omega arith; rights = sym w.rights }) (rw y (h.s5 p s e (at z))) (omega arith)
          (λ _. record {
            child = rw (← w.given, z) ok.child;
            cover = λ l m. record { i = n; e = range_of e r mark; at = rw (← w.given) at_n; holds = omega arith };
          })
          (λ m. absurd (false≢true (sym ok.plain ∙ w.whole ∙ m)))
          (around p e)
      go (second z y v) =
          let w = same (some_inj v) in
          let x = h.s5_range k.current s e ok.entry.at in
          record {
            structure = rw (z, y) ok.slot.room;
            range = omega arith;
            lent = λ g. absurd (g (omega arith));
            inside = λ _. record {
              i = s;
              f = given_to e c;
              at = rw (z, ok.child.parent) at_s;
              given = sym z;
              from = omega arith;
              to = omega arith;
              sub = rw (← w.rights) ok.rights;
            };
            root = λ g. absurd (ok.child.other (sym z ∙ g));
            whole = λ _. record {
              clear = λ q j b l u x y. ok.entry.clear q j b l u x (omega arith);
              free = sym w.given;
              other = λ g. ok.child.other (sym z ∙ g);
              i = s;
              f = given_to e c;
              at = rw (z, ok.child.parent) at_s;
              given = sym z;
              start = w.start;
              stop = w.stop;
            };
          }

  apart : (p i j : ℕ) (a b : Entry) (l : ℕ) → new p i ≡ some a → new p j ≡ some b → In l a → In l b → i ≡ j
  apart p i j a b l u v x y = go (inv p i a u) (inv p j b v)
    where
      go : Fr p i a → Fr p j b → i ≡ j
      go (old u _ _) (old v _ _) = h.s6 p i j a b l u v x y
      go (old u _ _) (first q t v) = let w = same (some_inj v) in rw t (h.s6 p i s a e l u (rw q ok.entry.at) x (omega arith))
      go (old u _ _) (second q _ v) = let w = same (some_inj v) in absurd (fresh i a l (rw q at u) x (omega arith))
      go (first q t u) (old v _ _) = let w = same (some_inj u) in rw t (h.s6 p s j e b l (rw q ok.entry.at) v (omega arith) y)
      go (second q _ u) (old v _ _) = let w = same (some_inj u) in absurd (fresh j b l (rw q at v) y (omega arith))
      go (first _ t _) (first _ t' _) = omega arith
      go (second _ t _) (second _ t' _) = omega arith
      go (first q _ _) (second q' _ _) = absurd (child_other h ok.child (sym q ∙ q'))
      go (second q _ _) (first q' _ _) = absurd (child_other h ok.child (sym q' ∙ q))

  -- what the child gets is alone in its grant: the child held no line of it
  equal : (p i m : ℕ) (a b : Entry) → (p ≡ 0 → ⊥) → new p i ≡ some a → new p m ≡ some b
      → (o : Inside new k.parent p a) (q : Inside new k.parent p b) → o.i ≡ q.i → a.rights ≡ b.rights
  equal p i m a b y u v o q z = go (inv p i a u) (inv p m b v)
    where
      was : {a : Entry} → p ≡ k.current → some (given_to e c) ≡ some a → EntryCame k new p a
      was x v =
          let w = same (some_inj v) in
          let l = h.s5_range k.current s e ok.entry.at in
          record { j = s; e = e; at = rw x ok.entry.at; line = e.start; was = omega arith; now = omega arith; rights = sym w.rights; stays = around p e }

      -- another entry of the child inside that grant
      alone : {a b : Entry} {j : ℕ} → p ≡ c → range_of e r mark ≡ a → k.slot p j ≡ some b → (o : Inside new k.parent p a) (q : Inside new k.parent p b)
          → o.i ≡ q.i → ⊥
      alone {a} {b} {j} x w t o q z =
          let d = same w in
          let l = h.s5_range k.current s e ok.entry.at in
          let up : k.parent p ≡ k.current = rw x ok.child.parent in
          let g : new k.current o.i ≡ some o.f = rw up at o.at in
          let f : new k.current q.i ≡ some q.f = rw up at q.at in
          let here : o.i ≡ s = apart k.current o.i s o.f (given_to e c) e.start g at_s (omega arith) (omega arith) in
          let n = same_place new at_s f (refl, sym z ∙ here) in
          let r = h.s5_range p j b t in
          fresh j b b.start (rw x at t) (omega arith) (omega arith)

      go : Fr p i a → Fr p m b → a.rights ≡ b.rights
      go (old t _ _) (old x _ _) = came_equal h apart y (old_came h t (around p a)) (old_came h x (around p b)) o q z
      go (old t _ _) (first x _ w) = came_equal h apart y (old_came h t (around p a)) (was x w) o q z
      go (first x _ w) (old t _ _) = came_equal h apart y (was x w) (old_came h t (around p b)) o q z
      go (first _ _ w) (first _ _ w') = (same (some_inj (sym w ∙ w'))).rights
      go (second _ _ w) (second _ _ w') = (same (some_inj (sym w ∙ w'))).rights
      go (second x _ w) (old t _ _) = absurd (alone x (some_inj w) t o q z)
      go (old t _ _) (second x _ w) = absurd (alone x (some_inj w) t q o (sym z))
      go (first x _ _) (second x' _ _) = absurd (child_other h ok.child (sym x ∙ x'))
      go (second x _ _) (first x' _ _) = absurd (child_other h ok.child (sym x' ∙ x))

  -- the ledger's line: the child now holds the lines of e too
  pub give_holds : (p l : ℕ) → Holds (give_k k c s n r mark e).slot p l ↔ (Holds k.slot p l ⊎ ((p ≡ c) × In l e))
  give_holds p l = (new_holds p l, go)
    where
      go : Holds k.slot p l ⊎ ((p ≡ c) × In l e) → Holds new p l
      go (inl u) = holds_new p l u
      go (inr (z, x)) = record { i = n; e = range_of e r mark; at = rw z at_n; holds = omega arith }

  pub give_core : Core (give_k k c s n r mark e)
  give_core = slots_core h (record {
    fine = fine;
    apart = apart;
    root = λ l. (λ u. go (new_holds 0 l u), holds_new 0 l);
    closed = closed_stays ok.entry ok.slot _ _;
    equal = equal;
  })
    where
      go : {l : ℕ} → Holds k.slot 0 l ⊎ ((0 ≡ c) × In l e) → Holds k.slot 0 l
      go (inl u) = u
      go (inr u) = absurd (ok.child.other (sym u.0))

-- ── the service ──
abbrev pub GiveDone : Table → ℕ → ℕ → Rights → Bool → ℕ → ℕ → Table → Type 0
GiveDone t c s r mark v w t' = (e : Entry) × GiveOk t.k c s v r e × (t' ≡ settle (give_k t.k c s v r mark e) t.region)

module _ {t : Table} (h : Right t) (c s : ℕ) (r : Rights) (mark : Bool) where
  pub give_exact : Answers (give_ladder t c s r mark) (give t c s r mark)
  unfolding give
  give_exact =
      check_answers (is_child_means t.k t.k.current c) λ _.
      free_answers h λ e.
      lowest_answers (free_means t.k c) λ n _.
      check_answers (within_means r e.rights) λ _.
      check_answers (unset_means e.whole) λ _.
      finished

  pub give_done : {v w : ℕ} {t' : Table} → give t c s r mark ≡ done v w t' → GiveDone t c s r mark v w t'
  unfolding Ends
  give_done = ends (GiveDone t c s r mark) give_exact (λ d e u o z n f y p.
      (e, record { child = d; entry = record { at = u; clear = o; free = z }; slot = f.here; rights = y; plain = p }, refl))

  -- the mark is set in the child's entry, never in the caller's
  pub give_marks : {v w : ℕ} {t' : Table} → give t c s r mark ≡ done v w t'
      → ((a : Entry) × (t'.k.slot t.k.current s ≡ some a) × (a.whole ≡ false)) × ((a : Entry) × (t'.k.slot c v ≡ some a) × (a.whole ≡ mark))
  unfolding settle
  give_marks x =
      let (e, ok, z) = give_done x in
      rw z ((given_to e c, at_s mark h.core ok, ok.plain), (range_of e r mark, at_n mark h.core ok, refl))

  pub give_right : {v w : ℕ} {t' : Table} → give t c s r mark ≡ done v w t' → Right t'
  give_right x = let (e, ok, z) = give_done x in rw z (settle_right (give_core mark h.core ok) h.stop (right_loads h))
