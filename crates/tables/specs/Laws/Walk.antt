-- A walk over the regions of a word takes the first off the word until that is 0. Then those that it has not come to are not loaded, and what these keep holds past all eight.
use Rattle.std.specs.Prelude.{◌≡◌, refl, ℕ, zero, suc, ◌+◌, ◌-◌, ◌≤◌, ◌<◌}
use Rattle.std.proofs.Math.Path.{ap}
use Rattle.std.proofs.Common.{sym, subst, ◌∙◌, arith, add-zero}
use Rattle.words.specs.Kind.{fields_in}
use Rattle.words.specs.Words.{regions}
use Rattle.words.specs.Fields.{no_region}
use Rattle.words.specs.Later.{later_regions}
use Rattle.words.specs.Laws.Later.{later_fields, bytes_left, bytes_few, bytes_later}
use Rattle.tables.specs.View.{nth_region}
use Rattle.tables.specs.Laws.ZeroWord.{region_in}

later_nth : (w i : ℕ) → nth_region (fields_in regions (later_regions w)) i ≡ nth_region (fields_in regions w) (suc i)
unfolding nth_region
later_nth w zero = (later_fields w).region0
later_nth w (suc zero) = (later_fields w).region1
later_nth w (suc (suc zero)) = (later_fields w).region2
later_nth w (suc (suc (suc zero))) = (later_fields w).region3
later_nth w (suc (suc (suc (suc zero)))) = (later_fields w).region4
later_nth w (suc (suc (suc (suc (suc zero))))) = (later_fields w).region5
later_nth w (suc (suc (suc (suc (suc (suc zero)))))) = (later_fields w).region6
later_nth w (suc (suc (suc (suc (suc (suc (suc zero))))))) = (later_fields w).region7
later_nth w (suc (suc (suc (suc (suc (suc (suc (suc i)))))))) = refl

-- w is what is left of v; the walk has come to region `at`, and P holds there
pub record WalkingRegions (P : ℕ → Type 0) (v w : ℕ) : Type 0 where
  pub at : ℕ
  pub few : at + bytes_left w ≤ 8
  pub same : (i : ℕ) → nth_region (fields_in regions w) i ≡ nth_region (fields_in regions v) (at + i)
  pub kept : P at

pub walk_start : {P : ℕ → Type 0} {v : ℕ} → P 0 → WalkingRegions P v v
walk_start {v = v} x = record { at = 0; few = omega (arith, bytes_few v); same = λ i. ap (nth_region (fields_in regions v)) (omega arith); kept = x }

module _ {P : ℕ → Type 0} {v w : ℕ} (k : WalkingRegions P v w) where
  module _ (h : 0 < w) where
    pub walk_in : k.at < 8
    walk_in = omega (arith, bytes_later w h, k.few)

    -- the region that it has come to
    pub walk_at : (fields_in regions w).region0 ≡ nth_region (fields_in regions v) k.at
    unfolding nth_region
    walk_at = k.same 0 ∙ ap (nth_region (fields_in regions v)) (add-zero k.at)

    pub walk_on : {Q : ℕ → Type 0} → Q (k.at + 1) → WalkingRegions Q v (later_regions w)
    walk_on x = record {
      at = k.at + 1;
      few = omega (arith, bytes_later w h, k.few);
      same = λ i. later_nth w i ∙ k.same (suc i) ∙ ap (nth_region (fields_in regions v)) (omega arith);
      kept = x;
    }

  -- nothing is left: the regions from there on are not loaded, and P goes on over them
  pub walk_end : w ≡ 0 → ((r : ℕ) → r < 8 → nth_region (fields_in regions v) r ≡ no_region → P r → P (r + 1)) → P 8
  walk_end z on = go (8 - k.at) k.at (omega (arith, k.few)) (omega arith) k.kept
    where
      blank : (r : ℕ) → k.at ≤ r → r < 8 → nth_region (fields_in regions v) r ≡ no_region
      blank r a b =
          ap (nth_region (fields_in regions v)) (omega arith)
          ∙ sym (k.same (r - k.at))
          ∙ ap (λ (x : ℕ). nth_region (fields_in regions x) (r - k.at)) z
          ∙ region_in (r - k.at) (omega arith)

      go : (m r : ℕ) → r + m ≡ 8 → k.at ≤ r → P r → P 8
      go zero r q a x = subst P (omega arith) x
      go (suc m) r q a x = go m (r + 1) (omega arith) (omega arith) (on r (omega arith) (blank r a (omega arith)) x)
