-- Eight regions with one replaced are the fields of the table with that region replaced.
use Rattle.std.specs.Prelude.{◌≡◌, refl, cond, eqb, ℕ}
use Rattle.std.proofs.Common.{ap, sym, eq-eqb, ne_eqb}
use Rattle.std.proofs.Math.Decide.{ℕ_discrete}
use Rattle.tables.specs.State.{Opt}
use Rattle.tables.specs.Encode.{region_for, regions_for}
use Rattle.tables.specs.Regions.{with_region}

-- h is g, but at r
module _ (g h : ℕ → Opt ℕ) (r : ℕ) (same : (q : ℕ) → (q ≡ r → ⊥) → h q ≡ g q) where
  at : (q : ℕ) → cond (eqb r q) (region_for (h r)) (region_for (g q)) ≡ region_for (h q)
  at q = go (ℕ_discrete q r)
    where
      go : Dec (q ≡ r) → cond (eqb r q) (region_for (h r)) (region_for (g q)) ≡ region_for (h q)
      go (yes z) = rw (z, eq-eqb r r refl) refl
      go (no z) = rw (ne_eqb r q (λ y. z (sym y))) (ap region_for (sym (same q z)))

  pub with_region_for : with_region (regions_for g) r (region_for (h r)) ≡ regions_for h
  with_region_for = λ x. record {
    region0 = at 0 x;
    region1 = at 1 x;
    region2 = at 2 x;
    region3 = at 3 x;
    region4 = at 4 x;
    region5 = at 5 x;
    region6 = at 6 x;
    region7 = at 7 x;
  }
