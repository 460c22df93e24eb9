-- Switch keeps a table sound; its answer is that of its conditions.
use Rattle.std.specs.Prelude.{◌≡◌, refl, true, ◌↔◌, ℕ}
use Rattle.std.proofs.Common.{inl, inr}
use Rattle.tables.specs.State.{K, Table}
use Rattle.tables.specs.Write.{with_current}
use Rattle.tables.specs.Settle.{settle}
use Rattle.sound.specs.Sound.{Present}
use Rattle.sound.specs.Laws.Means.{eq_means, and_means, or_means, not_means}
use Rattle.sound.specs.Core.{Core}
use Rattle.sound.specs.Whole.{Right}
use Rattle.rules.specs.Rules.{done, parent_or_child, switch}
use Rattle.isolation.specs.Laws.Settled.{right_loads, settle_right}
use Rattle.isolation.specs.Ladder.{Answers, finished, Ends}
use Rattle.isolation.specs.Laws.Ladder.{ends, check_answers}
use Rattle.isolation.specs.Laws.Checks.{is_child_means}
use Rattle.isolation.specs.Ladders.{ParentOrChild, switch_ladder}

module _ {k : K} (h : Core k) where
  who_present : {p : ℕ} → ParentOrChild k p → Present k p
  who_present (inl (_, z)) = rw z (h.s2_up k.current h.s1_current)
  who_present (inr c) = c.present

  pub switch_core : {p : ℕ} → ParentOrChild k p → Core (with_current k p)
  switch_core c = record {
    s1 = h.s1;
    s1_current = who_present c;
    s2_root_law = h.s2_root_law;
    s2_range = h.s2_range;
    s2_absent = h.s2_absent;
    s2_parent = h.s2_parent;
    s2_up = h.s2_up;
    s2_climb = h.s2_climb;
    s4 = h.s4;
    s5 = h.s5;
    s5_range = h.s5_range;
    s6 = h.s6;
    s7_root_law = h.s7_root_law;
    s7_given_law = h.s7_given_law;
    s7_in = h.s7_in;
    s7_cover_law = h.s7_cover_law;
    s7_whole_law = h.s7_whole_law;
    s8 = h.s8;
    s8_apart_law = h.s8_apart_law;
    s11 = h.s11;
    s11_equal_law = h.s11_equal_law;
  }

abbrev pub SwitchDone : Table → ℕ → ℕ → ℕ → Table → Type 0
SwitchDone t p v w t' = ParentOrChild t.k p × (t' ≡ settle (with_current t.k p) t.region)

module _ {t : Table} (h : Right t) (p : ℕ) where
  who_means : (parent_or_child t.k p ≡ true) ↔ ParentOrChild t.k p
  unfolding parent_or_child
  who_means = or_means (and_means (not_means (eq_means t.k.current 0)) (eq_means p (t.k.parent t.k.current))) (is_child_means t.k t.k.current p)

  pub switch_exact : Answers (switch_ladder t p) (switch t p)
  unfolding switch
  switch_exact = check_answers who_means λ _. finished

  pub switch_done : {v w : ℕ} {t' : Table} → switch t p ≡ done v w t' → SwitchDone t p v w t'
  unfolding Ends
  switch_done = ends (SwitchDone t p) switch_exact (λ c. (c, refl))

  pub switch_right : {v w : ℕ} {t' : Table} → switch t p ≡ done v w t' → Right t'
  switch_right x = let (c, z) = switch_done x in rw z (settle_right (switch_core h.core c) h.stop (right_loads h))
