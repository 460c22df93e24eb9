-- Who is absent is all zero, and the entries of who has its shape have a line each.
use Rattle.std.specs.Prelude.{◌≡◌, true, false, ◌&&◌, List, ℕ, ◌<◌}
use Rattle.std.proofs.Common.{sym, ◌∙◌, ne_eqb}
use Rattle.std.proofs.lemmas.Bool.{false≢true}
use Rattle.std.proofs.Math.Decide.{ℕ_discrete}
use Rattle.tables.specs.View.{view}
use Rattle.tables.specs.Search.{present}
use Rattle.tables.specs.ZeroRecord.{zero_record}
use Rattle.sound.specs.Clauses.{s2, s3, s4, s5}
use Rattle.sound.specs.Laws.Tests.{and_says}
use Rattle.sound.proofs.Laws.MeansEntries.{present_means}
use Rattle.sound.proofs.Laws.MeansWords.{s2_means, s5_means}
use Rattle.ordering.specs.Order.{Solid}

module _ (l : List ℕ) (p : ℕ) where
  -- the root is present; another that is absent is all zero ..
  pub absent_zero : p < 16 → s2 l (view l).k p ≡ true → present (view l).k p ≡ false → (p ≡ 0 → ⊥) × (zero_record l p ≡ true)
  unfolding s2
  absent_zero b q n = go (ℕ_discrete p 0)
    where
      go : Dec (p ≡ 0) → (p ≡ 0 → ⊥) × (zero_record l p ≡ true)
      go (yes z) =
          let r = (s2_means l p b).0 q in
          absurd (false≢true (sym n ∙ (present_means (view l).k p).1 (_, (r.root z).0)))
      go (no z) = (z, rw (ne_eqb p 0 z, n) at q)

  -- S5 at p, which S6 and S7 lean on
  pub record_solid : p < 16 → s3 l p && s4 l (view l).k p && s5 l (view l).k p ≡ true → Solid (view l).k p
  record_solid b q = ((s5_means l p b).0 (and_says (s3 l p && s4 l (view l).k p) (s5 l (view l).k p) q).1).range
