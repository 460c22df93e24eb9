-- Delete keeps a table sound: p goes alone; its answer is that of its conditions.
use Rattle.std.specs.Prelude.{◌≡◌, refl, ◌↔◌, true, not, ℕ, eqb}
use Rattle.std.proofs.Common.{sym, ◌∙◌, inl, eq-eqb, ne_eqb, eqb-true}
use Rattle.loops.specs.Laws.Every.{any_at, any_of}
use Rattle.tables.specs.State.{K, Table}
use Rattle.tables.specs.Search.{child, has_child}
use Rattle.sound.specs.Core.{Core}
use Rattle.sound.specs.Properties.{Child}
use Rattle.sound.specs.Whole.{Right}
use Rattle.sound.specs.Laws.Tests.{not_says, not_of}
use Rattle.rules.specs.Rules.{remove, done, delete}
use Rattle.isolation.specs.Laws.Keep.{child_other}
use Rattle.isolation.specs.Ladder.{Answers, finished, Ends}
use Rattle.isolation.specs.Laws.Ladder.{ends, check_answers}
use Rattle.isolation.specs.Laws.Checks.{is_child_means}
use Rattle.isolation.specs.Laws.Remove.{Goes}
use Rattle.isolation.proofs.Laws.Remove.{remove_right}
use Rattle.isolation.specs.Ladders.{delete_ladder}

-- p goes alone
goes_alone : {k : K} {p : ℕ} → Core k → Child k k.current p → ((q : ℕ) → Child k p q → ⊥) → Goes k p (λ q. eqb q p)
goes_alone {k} {p} h c childless = record {
  child = c;
  itself = eq-eqb p p refl;
  root = ne_eqb 0 p (λ z. c.other (sym z));
  caller = ne_eqb k.current p (child_other h c);
  up = λ q z. inl (eqb-true q p z);
  down = λ r q d z. absurd (childless q (record { present = d.present; other = d.other; parent = d.parent ∙ eqb-true r p z }));
}

abbrev pub DeleteDone : Table → ℕ → ℕ → ℕ → Table → Type 0
DeleteDone t p v w t' = Goes t.k p (λ q. eqb q p) × (t' ≡ remove t p (λ q. eqb q p))

module _ {t : Table} (h : Right t) (p : ℕ) where
  childless_means : (not (has_child t.k p) ≡ true) ↔ ((q : ℕ) → Child t.k p q → ⊥)
  unfolding has_child
  childless_means = (
    λ x q c. let (a, u) = c.present in not_says _ x (any_of 16 (child t.k p) q (h.core.s2_range q 0 a u).0 ((is_child_means t.k p q).1 c)),
    λ n. not_of _ (λ x. let (q, _, y) = any_at 16 (child t.k p) x in n q ((is_child_means t.k p q).0 y)),
  )

  pub delete_exact : Answers (delete_ladder t p) (delete t p)
  unfolding delete
  delete_exact =
      check_answers (is_child_means t.k t.k.current p) λ _.
      check_answers childless_means λ _.
      finished

  pub delete_done : {v w : ℕ} {t' : Table} → delete t p ≡ done v w t' → DeleteDone t p v w t'
  unfolding Ends
  delete_done = ends (DeleteDone t p) delete_exact (λ c n. (goes_alone h.core c n, refl))

  pub delete_right : {v w : ℕ} {t' : Table} → delete t p ≡ done v w t' → Right t'
  delete_right x = let (ok, z) = delete_done x in rw z (remove_right h ok)
