-- Load and unload keep a table sound, read region changes nothing; each answers by its conditions.
use Rattle.std.specs.Prelude.{◌≡◌, refl, true, ◌&&◌, ◌↔◌}
use Rattle.std.proofs.Math.Bool.{Bool, not}
use Prim.Native.Nat.{ℕ, ◌≤◌, ◌<◌}
use Rattle.std.proofs.Math.Dec.{eqb}
use Rattle.loops.specs.Laws.Every.{any_at, any_of}
use Rattle.shapes.specs.declared.Board.{Board}
use Rattle.tables.specs.State.{none, some, Entry, Table}
use Rattle.tables.specs.Update.{upd}
use Rattle.tables.specs.Laws.Update.{upd_none}
use Rattle.tables.specs.Lines.{Clear}
use Rattle.tables.specs.Settle.{settle}
use Rattle.sound.specs.Limit.{loaded_pieces}
use Rattle.sound.specs.Clauses.{has}
use Rattle.sound.specs.Laws.Tests.{not_says, not_of}
use Rattle.sound.specs.Laws.Means.{eq_means, lt_means, le_means, and_means, not_means, has_means}
use Rattle.sound.specs.Whole.{Right}
use Rattle.rules.specs.Rules.{done, elsewhere, load, unload, read_region}
use Rattle.isolation.specs.Laws.Settled.{right_loads, loads_fewer, loads_more, settle_right, right_same}
use Rattle.isolation.specs.Ladder.{Answers, finished, Ends}
use Rattle.isolation.specs.Laws.Ladder.{ends, check_answers, need_answers}
use Rattle.isolation.specs.Ladders.{OwnOrChild, NoOtherRegion, load_ladder, unload_ladder, read_region_ladder}
use Rattle.isolation.specs.Laws.Checks.{own_means}

-- ── load ──
-- what checks 3 (who), 4, 5 (at, clear), 16 (region, once) and 19 (few) say
pub record LoadOk (b : Board) (t : Table) (p s r : ℕ) (e : Entry) : Type 0 where
  pub who : OwnOrChild t.k p
  pub at : t.k.slot p s ≡ some e
  pub clear : Clear t.k.area e
  pub region : r < 8
  pub once : NoOtherRegion t p s r
  pub few : loaded_pieces b t.k.slot (upd t.region p r (some s)) p ≤ 8

abbrev pub LoadDone : Board → Table → ℕ → ℕ → ℕ → ℕ → ℕ → Table → Type 0
LoadDone b t p s r v w t' = (e : Entry) × LoadOk b t p s r e × (t' ≡ settle t.k (upd t.region p r (some s)))

module _ (board : Board) {t : Table} (h : Right t) (p s r : ℕ) where
  nowhere_means : (not (elsewhere t p s r) ≡ true) ↔ NoOtherRegion t p s r
  unfolding elsewhere
  nowhere_means = (
    λ x q n u. not_says _ x (any_of 8 test q (h.eight p q s u) ((means q).1 (n, (s, u, refl)))),
    λ f. not_of _ (λ x.
        let (q, _, y) = any_at 8 test x in
        let (n, (i, u, e)) = (means q).0 y in
        f q n (rw e at u)),
  )
    where
      test : ℕ → Bool
      test q = not (eqb q r) && has (λ i. eqb i s) (t.region p q)

      means : (q : ℕ) → (test q ≡ true) ↔ ((q ≡ r → ⊥) × ((i : ℕ) × (t.region p q ≡ some i) × (i ≡ s)))
      means q = and_means (not_means (eq_means q r)) (has_means (t.region p q) (λ i. eq_means i s))

  pub load_exact : Answers (load_ladder board t p s r) (load board t p s r)
  unfolding load
  load_exact =
      check_answers (own_means t.k p) λ _.
      need_answers λ e u.
      check_answers (h.s9 p s e u) λ _.
      check_answers (and_means (lt_means r 8) nowhere_means) λ _.
      check_answers (le_means (loaded_pieces board t.k.slot (upd t.region p r (some s)) p) 8) λ _.
      finished

  pub load_done : {v w : ℕ} {t' : Table} → load board t p s r ≡ done v w t' → LoadDone board t p s r v w t'
  unfolding Ends
  load_done = ends (LoadDone board t p s r) load_exact (λ c e u o b n. (e, record { who = c; at = u; clear = o; region = b.0; once = b.1; few = n }, refl))

  pub load_right : {v w : ℕ} {t' : Table} → load board t p s r ≡ done v w t' → Right t'
  load_right x = let (e, ok, z) = load_done x in rw z (settle_right h.core h.stop (loads_more (right_loads h) ok.region ok.once))

-- ── unload ──
abbrev pub UnloadDone : Table → ℕ → ℕ → ℕ → ℕ → Table → Type 0
UnloadDone t p r v w t' = OwnOrChild t.k p × (r < 8) × (t' ≡ settle t.k (upd t.region p r none))

module _ {t : Table} (h : Right t) (p r : ℕ) where
  pub unload_exact : Answers (unload_ladder t p r) (unload t p r)
  unfolding unload
  unload_exact =
      check_answers (own_means t.k p) λ _.
      check_answers (lt_means r 8) λ _.
      finished

  pub unload_done : {v w : ℕ} {t' : Table} → unload t p r ≡ done v w t' → UnloadDone t p r v w t'
  unfolding Ends
  unload_done = ends (UnloadDone t p r) unload_exact (λ c b. (c, b, refl))

  pub unload_right : {v w : ℕ} {t' : Table} → unload t p r ≡ done v w t' → Right t'
  unload_right x =
      let (_, _, z) = unload_done x in
      rw z (settle_right h.core h.stop (loads_fewer (right_loads h) (λ q m i u. upd_none t.region p r q m u)))

-- ── read region ──
module _ {t : Table} (h : Right t) (p r : ℕ) where
  pub read_region_exact_law : Answers (read_region_ladder t p r) (read_region t p r)
  unfolding read_region
  read_region_exact_law =
      rw (right_same h)
      (check_answers (own_means t.k p) λ _.
      check_answers (lt_means r 8) λ _.
      finished)

  -- nothing is changed
  pub read_region_same_law : {v w : ℕ} {t' : Table} → read_region t p r ≡ done v w t' → t' ≡ t
  unfolding Ends
  read_region_same_law = ends (λ _ _ t'. t' ≡ t) read_region_exact_law (λ _ _. refl)
