-- Cut: what its conditions say (CutOk, specs/Laws/Cut) keeps a table sound, and each partition holds the lines that it held; its answer is that of its conditions.
use Rattle.std.specs.Prelude.{◌≡◌, refl, ◌↔◌, ℕ, ◌<◌, eqb}
use Rattle.std.proofs.Common.{sym, ◌∙◌, arith}
use Rattle.std.proofs.lemmas.Bool.{false≢true}
use Rattle.std.proofs.Math.Decide.{dec_lt}
use Rattle.tables.specs.State.{Opt, some, Entry, K, Table, ending_at, starting_at}
use Rattle.tables.specs.Laws.State.{same, some_inj}
use Rattle.tables.specs.Update.{both?}
use Rattle.tables.specs.Lines.{In, Holds}
use Rattle.tables.specs.Settle.{settle}
use Rattle.sound.specs.Laws.Means.{lt_means, and_means}
use Rattle.sound.specs.Core.{Core}
use Rattle.sound.specs.Whole.{Right}
use Rattle.rules.specs.Rules.{done, unloaded, cut_k, cut}
use Rattle.isolation.specs.Laws.Settled.{right_loads, loads_unloaded, settle_right}
use Rattle.isolation.specs.Ladder.{Answers, finished, Ends}
use Rattle.isolation.specs.Laws.Ladder.{ends, check_answers, lowest_answers}
use Rattle.isolation.specs.Laws.Two.{From, old, first, second, same_place, two_from, two_second}
use Rattle.isolation.specs.Laws.Checks.{free_answers, unset_means, free_means}
use Rattle.isolation.specs.Ladders.{cut_ladder}
use Rattle.isolation.specs.Laws.Keep.{still}
use Rattle.isolation.specs.Laws.Slots.{Fine, AroundStays, EntryCame, slots_core, around_stays, part_fine, old_fine, old_came, came_equal}
use Rattle.isolation.specs.Laws.Written.{first_at_law, stays_at, given_stays, closed_stays}
use Rattle.isolation.specs.Laws.Cut.{CutOk}

module _ {k : K} {s n m : ℕ} {e : Entry} (h : Core k) (ok : CutOk k s n m e) where
  abbrev new : ℕ → ℕ → Opt Entry
  new = (cut_k k s n m e).slot

  abbrev Fr : ℕ → ℕ → Entry → Type 0
  Fr = From k.slot k.current s (some (ending_at e m)) k.current n (some (starting_at e m))

  inv : (p i : ℕ) (a : Entry) → new p i ≡ some a → Fr p i a
  inv = two_from k.slot k.current s _ k.current n _

  at_s : new k.current s ≡ some (ending_at e m)
  at_s = first_at_law ok.entry ok.slot _ _

  at_n : new k.current n ≡ some (starting_at e m)
  at_n = two_second k.slot k.current s _ k.current n _

  around : (p : ℕ) (a : Entry) → AroundStays k new p a
  around = around_stays k (given_stays ok.entry ok.slot _ _)

  new_holds : (p l : ℕ) → Holds new p l → Holds k.slot p l
  new_holds p l u = go (inv p u.i u.e u.at)
    where
      go : Fr p u.i u.e → Holds k.slot p l
      go (old v _ _) = still u (u.i, v)
      go (first z _ v) = let w = same (some_inj v) in record { i = s; e = e; at = rw z ok.entry.at; holds = omega arith }
      go (second z _ v) = let w = same (some_inj v) in record { i = s; e = e; at = rw z ok.entry.at; holds = omega arith }

  holds_new : (p l : ℕ) → Holds k.slot p l → Holds new p l
  holds_new p l u = go (both? k.current s p u.i) (dec_lt l m)
    where
      go : Dec ((p ≡ k.current) × (u.i ≡ s)) → Dec (l < m) → Holds new p l
      go (no z) _ = still u (stays_at ok.entry ok.slot _ _ p u.i u.e u.at z)
      go (yes z) (yes b) =
          let w = same_place k.slot ok.entry.at u.at z in
          record { i = s; e = ending_at e m; at = rw z.0 at_s; holds = omega arith }
      go (yes z) (no b) =
          let w = same_place k.slot ok.entry.at u.at z in
          record { i = n; e = starting_at e m; at = rw z.0 at_n; holds = omega arith }

  fine : (p i : ℕ) (a : Entry) → new p i ≡ some a → Fine k new p i a
  fine p i a u = go (inv p i a u)
    where
      at : p ≡ k.current → k.slot p s ≡ some e
      at z = rw z ok.entry.at

      go : Fr p i a → Fine k new p i a
      go (old v _ _) = old_fine h v (λ _ l _. holds_new a.given l) (around p a)
      go (first z y v) =
          let w = same (some_inj v) in
          part_fine h (at z) (record { from = omega arith; to = omega arith; rights = sym w.rights }) (rw y (h.s5 p s e (at z))) (omega arith)
          (λ g. absurd (g (omega arith))) (λ b. absurd (false≢true (sym ok.plain ∙ w.whole ∙ b))) (around p e)
      go (second z y v) =
          let w = same (some_inj v) in
          part_fine h (at z) (record { from = omega arith; to = omega arith; rights = sym w.rights }) (rw (z, y) ok.slot.room) (omega arith)
          (λ g. absurd (g (omega arith))) (λ b. absurd (false≢true (sym ok.plain ∙ w.whole ∙ b))) (around p e)

  apart : (p i j : ℕ) (a b : Entry) (l : ℕ) → new p i ≡ some a → new p j ≡ some b → In l a → In l b → i ≡ j
  apart p i j a b l u v x y = go (inv p i a u) (inv p j b v)
    where
      -- an old entry with a line of e is slot s
      clash : (i : ℕ) (a : Entry) → p ≡ k.current → k.slot p i ≡ some a → ((p ≡ k.current) × (i ≡ s) → ⊥) → In l a → In l e → ⊥
      clash i a q u z x y = z (q, h.s6 p i s a e l u (rw q ok.entry.at) x y)

      go : Fr p i a → Fr p j b → i ≡ j
      go (old u _ _) (old v _ _) = h.s6 p i j a b l u v x y
      go (old u f _) (first q _ v) = let w = same (some_inj v) in absurd (clash i a q u f x (omega arith))
      go (old u f _) (second q _ v) = let w = same (some_inj v) in absurd (clash i a q u f x (omega arith))
      go (first q _ u) (old v f _) = let w = same (some_inj u) in absurd (clash j b q v f y (omega arith))
      go (second q _ u) (old v f _) = let w = same (some_inj u) in absurd (clash j b q v f y (omega arith))
      go (first _ r _) (first _ t _) = omega arith
      go (second _ r _) (second _ t _) = omega arith
      go (first _ _ u) (second _ _ v) = let w = same (some_inj u) in let z = same (some_inj v) in absurd (omega arith)
      go (second _ _ u) (first _ _ v) = let w = same (some_inj u) in let z = same (some_inj v) in absurd (omega arith)

  came : (p i : ℕ) (a : Entry) → new p i ≡ some a → EntryCame k new p a
  came p i a u = go (inv p i a u)
    where
      go : Fr p i a → EntryCame k new p a
      go (old v _ _) = old_came h v (around p a)
      go (first z _ v) =
          let w = same (some_inj v) in
          record { j = s; e = e; at = rw z ok.entry.at; line = e.start; was = omega arith; now = omega arith; rights = sym w.rights; stays = around p e }
      go (second z _ v) =
          let w = same (some_inj v) in
          record { j = s; e = e; at = rw z ok.entry.at; line = m; was = omega arith; now = omega arith; rights = sym w.rights; stays = around p e }

  -- the ledger's line: each partition holds the lines that it held
  pub cut_holds : (p l : ℕ) → Holds (cut_k k s n m e).slot p l ↔ Holds k.slot p l
  cut_holds p l = (new_holds p l, holds_new p l)

  pub cut_core : Core (cut_k k s n m e)
  cut_core = slots_core h (record {
    fine = fine;
    apart = apart;
    root = cut_holds 0;
    closed = closed_stays ok.entry ok.slot _ _;
    equal = λ p i j a b n u v. came_equal h apart n (came p i a u) (came p j b v);
  })

-- ── the service ──
abbrev pub CutDone : Table → ℕ → ℕ → ℕ → ℕ → Table → Type 0
CutDone t s l v w t' = (e : Entry) × CutOk t.k s v l e × (t' ≡ settle (cut_k t.k s v l e) (unloaded t.region t.k.current (λ i. eqb i s)))

module _ {t : Table} (h : Right t) (s l : ℕ) where
  pub cut_exact : Answers (cut_ladder t s l) (cut t s l)
  unfolding cut
  cut_exact =
      free_answers h λ e.
      check_answers (and_means (lt_means e.start l) (lt_means l e.stop)) λ _.
      lowest_answers (free_means t.k t.k.current) λ n _.
      check_answers (unset_means e.whole) λ _.
      finished

  pub cut_done : {v w : ℕ} {t' : Table} → cut t s l ≡ done v w t' → CutDone t s l v w t'
  unfolding Ends
  cut_done = ends (CutDone t s l) cut_exact (λ e u o z b n f m.
      (e, record { entry = record { at = u; clear = o; free = z }; from = b.0; to = b.1; slot = f.here; plain = m }, refl))

  pub cut_right : {v w : ℕ} {t' : Table} → cut t s l ≡ done v w t' → Right t'
  cut_right x = let (e, ok, z) = cut_done x in rw z (settle_right (cut_core h.core ok) h.stop (loads_unloaded (right_loads h) t.k.current (λ i. eqb i s)))
