-- Take keeps a table sound, and the child no longer holds the lines of the entry; its answer is that of its conditions.
use Rattle.std.specs.Prelude.{◌≡◌, refl, ◌↔◌, true, ℕ}
use Rattle.std.proofs.Common.{ap, sym, ◌∙◌, arith}
use Rattle.tables.specs.State.{Opt, none, some, Entry, K, Same, Table, given_to}
use Rattle.tables.specs.Laws.State.{same, some_inj, not_none}
use Rattle.tables.specs.Update.{both?}
use Rattle.tables.specs.Lines.{In, Holds}
use Rattle.tables.specs.Settle.{settle}
use Rattle.sound.specs.Core.{Core}
use Rattle.sound.specs.Properties.{Child}
use Rattle.sound.specs.Whole.{Right}
use Rattle.sound.specs.Laws.Tests.{and_says, and_true}
use Rattle.sound.specs.Laws.Means.{eq_means, and_means, not_means, has_means}
use Rattle.rules.specs.Rules.{take_k, done, take, returned}
use Rattle.isolation.specs.Laws.Two.{From, old, first, second, same_place, two_from, two_first, two_old, two_other}
use Rattle.isolation.specs.Laws.Keep.{given_child, child_other, same_clear, Has, still}
use Rattle.isolation.specs.Laws.Slots.{Fine, AroundStays, EntryCame, slots_core, part_fine, old_fine, old_came, came_equal}
use Rattle.isolation.specs.Laws.Settled.{right_loads, settle_right}
use Rattle.isolation.specs.Ladder.{Answers, finished, Ends}
use Rattle.isolation.specs.Laws.Ladder.{ends, check_answers, need_answers, lowest_answers}
use Rattle.isolation.specs.Ladders.{Returned, take_ladder}

-- what checks 4 (at), 6 (given) and 14 say: an entry f of the child, open and not given, has the range of e
pub record TakeOk (k : K) (s j : ℕ) (e f : Entry) : Type 0 where
  pub at : k.slot k.current s ≡ some e
  pub given : e.given ≡ 0 → ⊥
  pub back : Returned k e j f

module _ {k : K} {s j : ℕ} {e f : Entry} (h : Core k) (ok : TakeOk k s j e f) where
  abbrev new : ℕ → ℕ → Opt Entry
  new = (take_k k s j e).slot

  abbrev Fr : ℕ → ℕ → Entry → Type 0
  Fr = From k.slot k.current s (some (given_to e 0)) e.given j none

  inv : (p i : ℕ) (a : Entry) → new p i ≡ some a → Fr p i a
  inv = two_from k.slot k.current s _ e.given j _

  child : Child k k.current e.given
  child = given_child h k.current s e ok.at ok.given

  at_s : new k.current s ≡ some (given_to e 0)
  at_s = two_first k.slot k.current s _ e.given j _ (λ z. child_other h child z.0)

  stays : (p i : ℕ) (a : Entry) → k.slot p i ≡ some a → ((p ≡ k.current) × (i ≡ s) → ⊥) → ((p ≡ e.given) × (i ≡ j) → ⊥) → Has new p a
  stays p i a u y z = (i, two_old k.slot k.current s _ e.given j _ p i y z ∙ u)

  other_stays : (p i : ℕ) (a : Entry) → k.slot p i ≡ some a → (Same a e → ⊥) → (Same a f → ⊥) → Has new p a
  other_stays = two_other k.slot k.current s _ e.given j _ ok.at ok.back.at

  -- a line of e in the child is in its slot j
  in_j_law : (p i : ℕ) (a : Entry) (l : ℕ) → k.slot p i ≡ some a → p ≡ e.given → In l a → In l e → (p ≡ e.given) × (i ≡ j)
  in_j_law p i a l u z x y = (z, h.s6 e.given i j a f l (rw z at u) ok.back.at x (omega arith))

  new_holds : (p l : ℕ) → Holds new p l → Holds k.slot p l × ((p ≡ e.given) × In l e → ⊥)
  new_holds p l u = go (inv p u.i u.e u.at)
    where
      go : Fr p u.i u.e → Holds k.slot p l × ((p ≡ e.given) × In l e → ⊥)
      go (old v _ n) = (still u (u.i, v), λ z. n (in_j_law p u.i u.e l v z.0 u.holds z.1))
      go (first q _ v) =
          let w = same (some_inj v) in
          (record { i = s; e = e; at = rw q ok.at; holds = omega arith }, λ z. child_other h child (sym q ∙ z.0))
      go (second _ _ v) = not_none none refl v

  holds_new : (p l : ℕ) → Holds k.slot p l → ((p ≡ e.given) × In l e → ⊥) → Holds new p l
  holds_new p l u n = go (both? k.current s p u.i) (both? e.given j p u.i)
    where
      go : Dec ((p ≡ k.current) × (u.i ≡ s)) → Dec ((p ≡ e.given) × (u.i ≡ j)) → Holds new p l
      go (no y) (no z) = still u (stays p u.i u.e u.at y z)
      go (yes z) _ =
          let w = same_place k.slot ok.at u.at z in
          record { i = s; e = given_to e 0; at = rw z.0 at_s; holds = omega arith }
      go (no _) (yes z) =
          let w = same_place k.slot ok.back.at u.at z in
          absurd (n (z.0, omega arith))

  -- around an entry that is left is not e
  around : (p i : ℕ) (a : Entry) → k.slot p i ≡ some a → ((p ≡ e.given) × (i ≡ j) → ⊥) → AroundStays k new p a
  around p i a u n y o =
      let r = h.s5_range p i a u in
      other_stays (k.parent p) o.i o.f o.at
      (λ w. n (in_j_law p i a a.start u (sym o.given ∙ w.given) (omega arith) (omega arith)))
      (λ w. y (sym o.given ∙ w.given ∙ ok.back.free))

  fine : (p i : ℕ) (a : Entry) → new p i ≡ some a → Fine k new p i a
  fine p i a u = go (inv p i a u)
    where
      at : p ≡ k.current → k.slot p s ≡ some e
      at z = rw z ok.at

      go : Fr p i a → Fine k new p i a
      go (old v m n) = old_fine h v (λ g l x q. holds_new a.given l q (λ z.
          let c : p ≡ k.current = sym (h.s7_given_law p i a v g).1 ∙ ap k.parent z.0 ∙ child.parent in
          m (c, h.s6 k.current i s a e l (rw c at v) ok.at x z.1))) (around p i a v n)
      go (first z y v) =
          let w = same (some_inj v) in
          let r = h.s5_range p s e (at z) in
          part_fine h (at z) (record { from = omega arith; to = omega arith; rights = sym w.rights }) (rw y (h.s5 p s e (at z))) (omega arith)
          (λ g. absurd (g (sym w.given))) (λ m. absurd (ok.given (h.s7_whole_law p s e (at z) (w.whole ∙ m)).free)) (around p s e (at z) (λ q. child_other h child (sym z ∙ q.0)))
      go (second _ _ v) = not_none none refl v

  apart : (p i m : ℕ) (a b : Entry) (l : ℕ) → new p i ≡ some a → new p m ≡ some b → In l a → In l b → i ≡ m
  apart p i m a b l u v x y = go (inv p i a u) (inv p m b v)
    where
      go : Fr p i a → Fr p m b → i ≡ m
      go (old u _ _) (old v _ _) = h.s6 p i m a b l u v x y
      go (old u _ _) (first q t v) = let w = same (some_inj v) in rw t (h.s6 p i s a e l u (rw q ok.at) x (omega arith))
      go (first q t u) (old v _ _) = let w = same (some_inj u) in rw t (h.s6 p s m e b l (rw q ok.at) v (omega arith) y)
      go (first _ t _) (first _ t' _) = t ∙ sym t'
      go (second _ _ u) _ = not_none none refl u
      go (old _ _ _) (second _ _ v) = not_none none refl v
      go (first _ _ _) (second _ _ v) = not_none none refl v

  came : (p i : ℕ) (a : Entry) → new p i ≡ some a → EntryCame k new p a
  came p i a u = go (inv p i a u)
    where
      go : Fr p i a → EntryCame k new p a
      go (old v _ n) = old_came h v (around p i a v n)
      go (first z _ v) =
          let w = same (some_inj v) in
          let r = h.s5_range k.current s e ok.at in
          record {
            j = s;
            e = e;
            at = rw z ok.at;
            line = e.start;
            was = omega arith;
            now = omega arith;
            rights = sym w.rights;
            stays = around p s e (rw z ok.at) (λ q. child_other h child (sym z ∙ q.0));
          }
      go (second _ _ v) = not_none none refl v

  -- the ledger's line: the child no longer holds the lines of e
  pub take_holds : (p l : ℕ) → Holds (take_k k s j e).slot p l ↔ (Holds k.slot p l × ((p ≡ e.given) × In l e → ⊥))
  take_holds p l = (new_holds p l, λ u. holds_new p l u.0 u.1)

  pub take_core : Core (take_k k s j e)
  take_core = slots_core h (record {
    fine = fine;
    apart = apart;
    root = λ l. (λ u. (new_holds 0 l u).0, λ u. holds_new 0 l u (λ z. ok.given (sym z.0)));
    closed = λ p i a u y z. other_stays p i a u
        (λ w. ok.given (sym w.given ∙ y))
        (λ w. z (same_clear w ok.back.clear));
    equal = λ p i m a b n u v. came_equal h apart n (came p i a u) (came p m b v);
  })

-- ── the service ──
abbrev pub TakeDone : Table → ℕ → ℕ → ℕ → Table → Type 0
TakeDone t s v w t' = (i : ℕ) × (e f : Entry) × TakeOk t.k s i e f × (t' ≡ settle (take_k t.k s i e) t.region)

module _ {t : Table} (h : Right t) (s : ℕ) where
  pub returned_means : (e : Entry) (i : ℕ) → (returned t e i ≡ true) ↔ ((f : Entry) × Returned t.k e i f)
  unfolding returned
  returned_means e i =
      let o = t.k.slot e.given i in
      let exactly = has_means o (λ f. and_means (and_means (eq_means f.given 0) (eq_means f.start e.start)) (eq_means f.stop e.stop)) in (
        λ q.
            let (a, b) = and_says _ _ q in
            let (f, u, ((z, x), y)) = exactly.0 a in
            (f, record { at = u; clear = (h.s9 e.given i f u).0 b; free = z; start = x; stop = y }),
        λ (f, r). and_true _ _ (exactly.1 (f, r.at, ((r.free, r.start), r.stop))) ((h.s9 e.given i f r.at).1 r.clear),
      )

  pub take_exact : Answers (take_ladder t s) (take t s)
  unfolding take
  take_exact =
      need_answers λ e _.
      check_answers (not_means (eq_means e.given 0)) λ _.
      lowest_answers (returned_means e) λ i _.
      finished

  pub take_done : {v w : ℕ} {t' : Table} → take t s ≡ done v w t' → TakeDone t s v w t'
  unfolding Ends
  take_done = ends (TakeDone t s) take_exact (λ e u n i b.
      let r = b.here in
      (i, e, r.0, record { at = u; given = n; back = r.1 }, refl))

  pub take_right : {v w : ℕ} {t' : Table} → take t s ≡ done v w t' → Right t'
  take_right x = let (i, e, f, ok, z) = take_done x in rw z (settle_right (take_core h.core ok) h.stop (right_loads h))
