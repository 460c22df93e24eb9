-- Collect keeps a table sound, and each partition holds the lines that it held; its answer is that of its conditions.
use Rattle.std.specs.Prelude.{◌≡◌, refl, ◌↔◌, true, ℕ, ◌+◌, ◌*◌, ◌/◌, ◌%◌}
use Rattle.std.proofs.Common.{◌∙◌, arith}
use Rattle.tables.specs.State.{Opt, none, some, Entry, Area, nowhere, K, Table}
use Rattle.tables.specs.Laws.State.{not_none, never_some}
use Rattle.tables.specs.Laws.Update.{upd_other, upd_none}
use Rattle.tables.specs.Lines.{Holds}
use Rattle.tables.specs.Settle.{settle}
use Rattle.sound.specs.Sound.{Present}
use Rattle.sound.specs.Core.{Core}
use Rattle.sound.specs.Whole.{Right}
use Rattle.sound.specs.Laws.Means.{eq_means, lt_means, and_means, not_means, all_means}
use Rattle.sound.proofs.Laws.MeansEntries.{is_some_means}
use Rattle.rules.specs.Rules.{collect_k, done, collect, vacant}
use Rattle.isolation.specs.Ladders.{OwnOrChild, Empty, collect_ladder}
use Rattle.isolation.specs.Laws.Checks.{is_none_means, own_means}
use Rattle.isolation.specs.Laws.Keep.{whole_at}
use Rattle.isolation.specs.Laws.Settled.{right_loads, settle_right}
use Rattle.isolation.specs.Ladder.{Answers, finished, Ends}
use Rattle.isolation.specs.Laws.Ladder.{ends, check_answers}

-- what checks 3 (who), 4 (present) and 15 (empty, other) say
pub record CollectOk (k : K) (p j : ℕ) : Type 0 where
  pub who : OwnOrChild k p
  pub present : (a : Area) × (k.area p (1 + j) ≡ some a)
  pub empty : Empty k p j
  pub other : (p ≡ 0) × (j ≡ 0) → ⊥

module _ {k : K} {p j : ℕ} (h : Core k) (ok : CollectOk k p j) where
  abbrev new : ℕ → ℕ → Opt Area
  new = (collect_k k p j).area

  was : (q i : ℕ) (a : Area) → new q i ≡ some a → k.area q i ≡ some a
  was q i a u = upd_none k.area p (1 + j) q i u

  stays : (q i : ℕ) (a : Area) → k.area q i ≡ some a → ((q ≡ p) × (i ≡ 1 + j) → ⊥) → new q i ≡ some a
  stays q i a u n = upd_other k.area p (1 + j) none q i n ∙ u

  header : (q : ℕ) (a : Area) → k.area q 0 ≡ some a → new q 0 ≡ some a
  header q a u = stays q 0 a u (λ z. omega (arith, z.1))

  keep : (q : ℕ) → Present k q → Present (collect_k k p j) q
  keep q (a, u) = (a, header q a u)

  -- no entry stands in structure j
  no_entry : (q i : ℕ) (e : Entry) → k.slot q i ≡ some e → (q ≡ p) × (1 + i / 8 ≡ 1 + j) → ⊥
  no_entry q i e u (z, y) =
      let w : 8 * j + i % 8 ≡ i = omega arith in
      not_none (k.slot q i) (rw (z, ← w) (ok.empty (i % 8) (omega arith))) u

  pub collect_core : Core (collect_k k p j)
  collect_core = record {
    s1 = h.s1;
    s1_current = keep k.current h.s1_current;
    s2_root_law = (
      header 0 nowhere h.s2_root_law.0,
      stays 0 1 nowhere h.s2_root_law.1 (λ z. ok.other (omega (arith, z.0), omega (arith, z.1))),
      h.s2_root_law.2,
    );
    s2_range = λ q i a u. h.s2_range q i a (was q i a u);
    s2_absent = λ q i a u. keep q (h.s2_absent q i a (was q i a u));
    s2_parent = λ q z. h.s2_parent q (never_some (k.area q 0) (λ a u. not_none (new q 0) z (header q a u)));
    s2_up = λ q u. keep (k.parent q) (h.s2_up q (u.0, was q 0 u.0 u.1));
    s2_climb = λ q u. h.s2_climb q (u.0, was q 0 u.0 u.1);
    s4 = λ q i a u. h.s4 q i a (was q i a u);
    s5 = λ q i e u. let (a, v) = h.s5 q i e u in (a, stays q (1 + i / 8) a v (no_entry q i e u));
    s5_range = h.s5_range;
    s6 = h.s6;
    s7_root_law = h.s7_root_law;
    s7_given_law = λ q i e u n. let (a, v) = h.s7_given_law q i e u n in (keep e.given a, v);
    s7_in = h.s7_in;
    s7_cover_law = h.s7_cover_law;
    s7_whole_law = λ q i e u z.
        let w = h.s7_whole_law q i e u z in
        whole_at refl (λ c r m a l v. c r m a l (was r m a v)) w (w.i, w.at);
    s8 = λ q i a u. h.s8 q i a (was q i a u);
    s8_apart_law = λ q i r m a b l u v. h.s8_apart_law q i r m a b l (was q i a u) (was r m b v);
    s11 = h.s11;
    s11_equal_law = h.s11_equal_law;
  }

  -- the ledger's line: each partition holds the lines that it held
  pub collect_holds : (q l : ℕ) → Holds (collect_k k p j).slot q l ↔ Holds k.slot q l
  collect_holds q l = (λ u. u, λ u. u)

-- ── the service ──
abbrev pub CollectDone : Table → ℕ → ℕ → ℕ → ℕ → Table → Type 0
CollectDone t p j v w t' = CollectOk t.k p j × (t' ≡ settle (collect_k t.k p j) t.region)

module _ {t : Table} (h : Right t) (p j : ℕ) where
  vacant_means : (vacant t.k p j ≡ true) ↔ Empty t.k p j
  unfolding vacant
  vacant_means = all_means 8 _ (λ i _. is_none_means (t.k.slot p (8 * j + i)))

  pub collect_exact : Answers (collect_ladder t p j) (collect t p j)
  unfolding collect
  collect_exact =
      check_answers (own_means t.k p) λ _.
      check_answers (and_means (lt_means j 4) (is_some_means (t.k.area p (1 + j)))) λ _.
      check_answers (and_means vacant_means (not_means (and_means (eq_means p 0) (eq_means j 0)))) λ _.
      finished

  pub collect_done : {v w : ℕ} {t' : Table} → collect t p j ≡ done v w t' → CollectDone t p j v w t'
  unfolding Ends
  collect_done = ends (CollectDone t p j) collect_exact (λ c a e. (record { who = c; present = a.1; empty = e.0; other = e.1 }, refl))

  pub collect_right : {v w : ℕ} {t' : Table} → collect t p j ≡ done v w t' → Right t'
  collect_right x = let (ok, z) = collect_done x in rw z (settle_right (collect_core h.core ok) h.stop (right_loads h))
