-- What is loaded after slots were unloaded: it was loaded, and is none of them.
use Rattle.std.specs.Prelude.{◌≡◌, Bool, false, not, ℕ}
use Rattle.std.proofs.Common.{sym, ◌∙◌}
use Rattle.std.proofs.Math.Decide.{ℕ_discrete}
use Rattle.std.proofs.lemmas.Bool.{not-true}
use Rattle.tables.specs.State.{Opt, some}
use Rattle.tables.specs.Laws.Update.{row_same, row_other}
use Rattle.tables.specs.Laws.Kept.{keep_some}
use Rattle.rules.specs.Rules.{unloaded}

pub unloaded_was : (region : ℕ → ℕ → Opt ℕ) (c : ℕ) (m : ℕ → Bool) (q r i : ℕ) → unloaded region c m q r ≡ some i → (region q r ≡ some i) × (q ≡ c → m i ≡ false)
unloaded_was region c m q r i u = go (ℕ_discrete q c)
  where
    go : Dec (q ≡ c) → (region q r ≡ some i) × (q ≡ c → m i ≡ false)
    go (yes z) =
        let (v, n) = keep_some (λ j. not (m j)) (region c r) i (sym (row_same region c _ q r z) ∙ u) in
        (rw z v, λ _. not-true (m i) n)
    go (no z) = (sym (row_other region c _ q r z) ∙ u, λ y. absurd (z y))
