-- Find changes nothing; its answer is that of its conditions.
use Rattle.std.specs.Prelude.{◌≡◌, refl, ℕ}
use Rattle.tables.specs.State.{Table}
use Rattle.sound.proofs.Laws.MeansEntries.{holds_means}
use Rattle.sound.specs.Whole.{Right}
use Rattle.rules.specs.Rules.{done, find}
use Rattle.isolation.specs.Laws.Settled.{right_same}
use Rattle.isolation.specs.Ladder.{Answers, finished, Ends}
use Rattle.isolation.specs.Laws.Ladder.{ends, check_answers, lowest_answers}
use Rattle.isolation.specs.Laws.Checks.{own_means}
use Rattle.isolation.specs.Ladders.{find_ladder}

module _ {t : Table} (h : Right t) (p l : ℕ) where
  pub find_exact : Answers (find_ladder t p l) (find t p l)
  unfolding find
  find_exact =
      rw (right_same h)
      (check_answers (own_means t.k p) λ _.
      lowest_answers (λ i. holds_means l (t.k.slot p i)) λ i _.
      finished)

  -- nothing is changed
  pub find_same : {v w : ℕ} {t' : Table} → find t p l ≡ done v w t' → t' ≡ t
  unfolding Ends
  find_same = ends (λ _ _ t'. t' ≡ t) find_exact (λ _ _ _. refl)
