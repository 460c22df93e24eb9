-- Prepare keeps a table sound, and each partition holds the lines that it held; its answer is that of its conditions.
use Rattle.std.specs.Prelude.{◌≡◌, refl, ◌⊎◌, ◌↔◌, ℕ, ◌+◌, ◌<◌}
use Rattle.std.proofs.Common.{sym, inl, inr, arith}
use Rattle.tables.specs.State.{Entry, K, Table}
use Rattle.tables.specs.Lines.{Holds}
use Rattle.tables.specs.Settle.{settle}
use Rattle.tables.specs.Search.{no_structure}
use Rattle.sound.specs.Sound.{Present}
use Rattle.sound.specs.Core.{Core}
use Rattle.sound.specs.Whole.{Right}
use Rattle.rules.specs.Rules.{prepare_k, done, prepare}
use Rattle.isolation.specs.Ladders.{OwnOrChild, prepare_ladder}
use Rattle.isolation.specs.Laws.Checks.{FreeArea, free_answers, unset_means, is_none_means, own_means, long_means}
use Rattle.isolation.proofs.Laws.NewArea.{header_stays, was_absent, was_present, area_core}
use Rattle.isolation.specs.Laws.Settled.{right_loads, settle_right}
use Rattle.isolation.specs.Ladder.{Answers, finished, Ends}
use Rattle.isolation.specs.Laws.Ladder.{ends, check_answers, lowest_answers}

-- what checks 3 (who), 4, 5, 6, 8, 9 and 18 say
pub record PrepareOk (k : K) (p s j : ℕ) (e : Entry) : Type 0 where
  pub who : OwnOrChild k p
  pub structure : j < 4
  pub area : FreeArea k s p (1 + j) e

module _ {k : K} {p s j : ℕ} {e : Entry} (h : Core k) (ok : PrepareOk k p s j e) where
  present : OwnOrChild k p → Present k p
  present (inl z) = rw z h.s1_current
  present (inr c) = c.present

  who : OwnOrChild k p → (k.current ≡ k.parent p) ⊎ ((k.current ≡ p) × (0 < 1 + j))
  who (inl z) = inr (sym z, omega arith)
  who (inr c) = inl (sym c.parent)

  -- a header is no structure
  was : (q : ℕ) → Present k q ⊎ ((q ≡ p) × (1 + j ≡ 0)) → Present k q
  was q (inl u) = u
  was q (inr (_, z)) = absurd (omega arith)

  pub prepare_core : Core (prepare_k k p j e)
  prepare_core =
      let (a, u) = present ok.who in
      area_core ok.area h (record {
        number = (h.s2_range p 0 a u).0;
        structure = omega arith;
        same = λ q _. refl;
        header = header_stays ok.area p (a, u);
        who = who ok.who;
        orphan = λ q z. h.s2_parent q (was_absent ok.area q z);
        parent = λ q v. header_stays ok.area (k.parent q) (h.s2_up q (was q (was_present ok.area q v)));
        walk = λ q v. h.s2_climb q (was q (was_present ok.area q v));
      })

  -- the ledger's line: each partition holds the lines that it held
  pub prepare_holds : (q l : ℕ) → Holds (prepare_k k p j e).slot q l ↔ Holds k.slot q l
  prepare_holds q l = (λ u. u, λ u. u)

-- ── the service ──
abbrev pub PrepareDone : Table → ℕ → ℕ → ℕ → ℕ → Table → Type 0
PrepareDone t p s v w t' = (e : Entry) × PrepareOk t.k p s v e × (t' ≡ settle (prepare_k t.k p v e) t.region)

module _ {t : Table} (h : Right t) (p s : ℕ) where
  pub prepare_exact : Answers (prepare_ladder t p s) (prepare t p s)
  unfolding prepare no_structure
  prepare_exact =
      check_answers (own_means t.k p) λ _.
      free_answers h λ e.
      lowest_answers (λ j. is_none_means (t.k.area p (1 + j))) λ j _.
      check_answers (long_means e) λ _.
      check_answers (unset_means e.whole) λ _.
      finished

  pub prepare_done : {v w : ℕ} {t' : Table} → prepare t p s ≡ done v w t' → PrepareDone t p s v w t'
  unfolding Ends
  prepare_done = ends (PrepareDone t p s) prepare_exact (λ c e u o z j f l m.
      (e, record { who = c; structure = f.below; area = record { entry = record { at = u; clear = o; free = z }; absent = f.here; long = l; plain = m } }, refl))

  pub prepare_right : {v w : ℕ} {t' : Table} → prepare t p s ≡ done v w t' → Right t'
  prepare_right x = let (e, ok, z) = prepare_done x in rw z (settle_right (prepare_core h.core ok) h.stop (right_loads h))
