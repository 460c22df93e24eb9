-- Create keeps a table sound, and each partition holds the lines that it held; its answer is that of its conditions.
use Rattle.std.specs.Prelude.{◌≡◌, refl, ◌↔◌, true, ℕ, ◌<◌}
use Rattle.std.proofs.Math.Path.{ap}
use Rattle.std.proofs.Common.{sym, subst, ◌∙◌, inl, ⊎_elim, arith}
use Rattle.loops.specs.Loops.{Reaches, by_step}
use Rattle.loops.specs.Laws.Climb.{reaches_same}
use Rattle.loops.specs.Laws.Pigeon.{climb_less}
use Rattle.tables.specs.State.{none, some, Entry, K, Table}
use Rattle.tables.specs.Laws.State.{not_none}
use Rattle.tables.specs.Update.{upd1}
use Rattle.tables.specs.Laws.Update.{upd1_same, upd1_other, upd_same}
use Rattle.tables.specs.Lines.{Holds}
use Rattle.tables.specs.Settle.{settle}
use Rattle.tables.specs.Search.{lowest, absent, absent_child}
use Rattle.sound.specs.Sound.{Present}
use Rattle.sound.specs.Core.{Core}
use Rattle.sound.specs.Whole.{Right}
use Rattle.sound.specs.Laws.Means.{eq_means, and_means, not_means}
use Rattle.rules.specs.Rules.{create_k, done, free_entry, create}
use Rattle.rules.specs.Laws.Ran.{check_done, need_done}
use Rattle.isolation.specs.Laws.Checks.{FreeArea, free_answers, unset_means, is_none_means, long_means}
use Rattle.isolation.proofs.Laws.NewArea.{header_stays, was_absent, was_present, area_core}
use Rattle.isolation.specs.Laws.Settled.{right_loads, settle_right}
use Rattle.isolation.specs.Ladder.{Answers, finished, Ends}
use Rattle.isolation.specs.Laws.Ladder.{ends, check_answers, lowest_answers}
use Rattle.isolation.specs.Ladders.{Absent, create_ladder}
use Rattle.words.specs.declared.Refusal.TheVariants.{NoEntry, NotOpen, Given, NoneFree, TooShort, LentWhole}

-- what checks 4, 5, 6, 8, 9 and 18 say
pub record CreateOk (k : K) (s n : ℕ) (e : Entry) : Type 0 where
  pub number : n < 16
  pub area : FreeArea k s n 0 e

module _ {k : K} {s n : ℕ} {e : Entry} (h : Core k) (ok : CreateOk k s n e) where
  abbrev up : ℕ → ℕ
  up = upd1 k.parent n k.current

  other : (q : ℕ) → Present k q → q ≡ n → ⊥
  other q u z = not_none (k.area n 0) ok.area.absent (rw z at u.1)

  same : (q : ℕ) → Present k q → up q ≡ k.parent q
  same q u = upd1_other k.parent n k.current q (other q u)

  child : (q : ℕ) → q ≡ n → up q ≡ k.current
  child = upd1_same k.parent n k.current

  header : (q : ℕ) → q ≡ n → Present (create_k k n e) q
  header q z = (_, upd_same k.area n 0 (some _) q 0 (z, refl))

  orphan : (q : ℕ) → (create_k k n e).area q 0 ≡ none → up q ≡ 0
  orphan q z =
      upd1_other k.parent n k.current q (λ y. not_none ((create_k k n e).area q 0) z (header q y).1)
      ∙ h.s2_parent q (was_absent ok.area q z)

  parent : (q : ℕ) → Present (create_k k n e) q → Present (create_k k n e) (up q)
  parent q u = ⊎_elim
      (λ v. rw (same q v) (header_stays ok.area (k.parent q) (h.s2_up q v)))
      (λ z. rw (child q z.0) (header_stays ok.area k.current h.s1_current))
      (was_present ok.area q u)

  -- the caller's walk avoids n, so it ends within 14 steps
  short : Reaches k.parent 14 k.current
  short = climb_less (Present k) h.s2_up 14 n ok.number (λ p u. ((h.s2_range p 0 u.0 u.1).0, other p u))
      h.s1_current (h.s2_climb k.current h.s1_current)

  walk : (q : ℕ) → Present (create_k k n e) q → Reaches up 15 q
  walk q u = ⊎_elim
      (λ v. reaches_same (Present k) same h.s2_up v (h.s2_climb q v))
      (λ z. by_step (subst (Reaches up 14) (sym (child q z.0)) (reaches_same (Present k) same h.s2_up h.s1_current short)))
      (was_present ok.area q u)

  pub create_core : Core (create_k k n e)
  create_core = area_core ok.area h (record {
    number = ok.number;
    structure = omega arith;
    same = same;
    header = header n refl;
    who = inl (sym (child n refl));
    orphan = orphan;
    parent = parent;
    walk = walk;
  })

  -- the ledger's line: each partition holds the lines that it held
  pub create_holds : (p l : ℕ) → Holds (create_k k n e).slot p l ↔ Holds k.slot p l
  create_holds p l = (λ u. u, λ u. u)

-- ── the service ──
abbrev pub CreateDone : Table → ℕ → ℕ → ℕ → Table → Type 0
CreateDone t s v w t' = (e : Entry) × CreateOk t.k s v e × (t' ≡ settle (create_k t.k v e) t.region)

module _ {t : Table} (h : Right t) (s : ℕ) where
  absent_means : (n : ℕ) → (absent_child t.k n ≡ true) ↔ Absent t.k n
  unfolding absent_child absent
  absent_means n = and_means (not_means (eq_means n 0)) (is_none_means (t.k.area n 0))

  pub create_exact : Answers (create_ladder t s) (create t s)
  unfolding create
  create_exact =
      free_answers h λ e.
      lowest_answers absent_means λ n _.
      check_answers (long_means e) λ _.
      check_answers (unset_means e.whole) λ _.
      finished

  pub create_done : {v w : ℕ} {t' : Table} → create t s ≡ done v w t' → CreateDone t s v w t'
  unfolding Ends
  create_done = ends (CreateDone t s) create_exact (λ e u o z n f l m.
      (e, record { number = f.below; area = record { entry = record { at = u; clear = o; free = z }; absent = f.here.1; long = l; plain = m } }, refl))

  pub create_right : {v w : ℕ} {t' : Table} → create t s ≡ done v w t' → Right t'
  create_right x = let (e, ok, z) = create_done x in rw z (settle_right (create_core h.core ok) h.stop (right_loads h))

  -- it answers the lowest number that was absent
  pub create_number : {v w : ℕ} {t' : Table} → create t s ≡ done v w t' → lowest 16 (absent_child t.k) ≡ some v
  unfolding create free_entry
  create_number x =
      let (e, _, y) = need_done NoEntry _ _ x in
      let (n, q, z) = need_done NoneFree _ _ (check_done Given _ (check_done NotOpen _ y).1).1 in
      let last = (check_done LentWhole _ (check_done TooShort _ z).1).1 in
      q ∙ ap some (done_number last)
    where
      done_number : {a b v w : ℕ} {u t' : Table} → done a b u ≡ done v w t' → a ≡ v
      done_number q = cc
