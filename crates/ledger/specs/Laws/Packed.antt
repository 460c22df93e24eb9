-- The runs stay after a pack.
use Rattle.std.specs.Prelude.{◌≡◌}
use Rattle.std.proofs.Math.Path.{refl, ap}
use Rattle.std.proofs.Common.{◌∙◌}
use mathlib.Core.List.{List, [], ◌∷◌}
use Prim.Native.Nat.{ℕ, zero, suc, ◌+◌, ◌-◌}
use Rattle.tables.specs.State.{K, Table}
use Rattle.tables.specs.Settle.{settle}
use Rattle.sound.specs.Whole.{Right}
use Rattle.rules.specs.Rules.{done, pack_k, pack}
use Rattle.isolation.proofs.Laws.Pack.{pack_lowered, pack_core, pack_done}
use Rattle.isolation.proofs.Laws.Packed.{deepest_same}
use Rattle.runs.specs.declared.Run.{Run}
use Rattle.runs.specs.Runs.{deepest_at, joined_runs, runs_from, runs_of}

-- lines with the same deepest holders have the same runs
module _ (k j : K) (same : (l : ℕ) → deepest_at j l ≡ deepest_at k l) where
  joined_same : (l : ℕ) (rs : List Run) → joined_runs j l rs ≡ joined_runs k l rs
  unfolding joined_runs
  joined_same l [] = rw (same l) refl
  joined_same l (r ∷ rs) = rw (same l) refl

  runs_same : (l n : ℕ) → runs_from j l n ≡ runs_from k l n
  unfolding runs_from
  runs_same l zero = refl
  runs_same l (suc n) = joined_same l (runs_from j (l + 1) n) ∙ ap (joined_runs k l) (runs_same (l + 1) n)

pub pack_runs : {t : Table} → Right t → (p : ℕ) {v w : ℕ} {t' : Table} → pack t p ≡ done v w t' → runs_of t'.k ≡ runs_of t.k
unfolding runs_of settle
pack_runs {t} h p x =
    let (_, _, z) = pack_done h p x in
    rw z (runs_same t.k (pack_k t p) (λ l. deepest_same h.core (pack_core h p) (pack_lowered h p) l 0 15) t.k.base (t.k.stop - t.k.base))
