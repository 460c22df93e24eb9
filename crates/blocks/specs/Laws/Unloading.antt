-- After a slot was emptied, its regions dropped and the slot written anew, the table is the rule's: the same slots, and that slot unloaded.
use Rattle.std.specs.Prelude.{◌≡◌, Bool, true, ◌||◌, ℕ, eqb}
use Rattle.std.proofs.Math.Path.{refl}
use Rattle.std.proofs.Common.{sym, ◌∙◌}
use Rattle.std.proofs.Math.Bool.{false, cond, not}
use Rattle.std.proofs.Math.Decide.{ℕ_discrete}
use borrow.Author.Tests.{eq-eqb, ne_eqb}
use Rattle.tables.specs.State.{Opt, none, some, Table}
use Rattle.tables.specs.Update.{both?, upd, upd1}
use Rattle.tables.specs.Laws.Update.{row_same, row_other, upd_same, upd_other}
use Rattle.tables.specs.Settle.{keep}
use Rattle.sound.specs.Laws.Settled.{Settled}
use Rattle.rules.specs.Rules.{unloaded}
use Rattle.blocks.specs.Unloading.{unloaded_at}

-- what a place held before it was written does not matter
pub upd_twice : {A : Type 0} (f : ℕ → ℕ → A) (p i : ℕ) (a b : A) → upd (upd f p i a) p i b ≡ upd f p i b
upd_twice f p i a b = λ x q j. at q j (both? p i q j) x
  where
    at : (q j : ℕ) → Dec ((q ≡ p) × (j ≡ i)) → upd (upd f p i a) p i b q j ≡ upd f p i b q j
    at q j (yes z) = upd_same (upd f p i a) p i b q j z ∙ sym (upd_same f p i b q j z)
    at q j (no z) = upd_other (upd f p i a) p i b q j z ∙ upd_other f p i a q j z ∙ sym (upd_other f p i b q j z)

-- where regions name open slots, dropping those of a closed slot unloads it and no other
module _ {t : Table} (h : Settled t) (c s : ℕ) where
  dropped : (r : ℕ) → keep (upd t.opened c s false c) (t.region c r) ≡ keep (λ i. not (eqb i s)) (t.region c r)
  unfolding keep
  dropped r = at (t.region c r) refl
    where
      at : (x : Opt ℕ) → t.region c r ≡ x → keep (upd t.opened c s false c) x ≡ keep (λ i. not (eqb i s)) x
      at none u = refl
      at (some i) u = go (ℕ_discrete i s)
        where
          go : Dec (i ≡ s) → cond (upd t.opened c s false c i) (some i) none ≡ cond (not (eqb i s)) (some i) none
          go (yes z) = rw (upd_same t.opened c s false c i (refl, z), eq-eqb i s z) refl
          go (no z) = rw (upd_other t.opened c s false c i (λ w. z w.1), h.names c r i u, ne_eqb i s z) refl

  pub unloaded_same : (unloaded_at t c s).region ≡ unloaded t.region c (λ i. eqb i s)
  unloaded_same = λ x. upd1 t.region c (λ r. dropped r x)

-- one slot after another
pub unloaded_both : (region : ℕ → ℕ → Opt ℕ) (c : ℕ) (m n : ℕ → Bool) → unloaded (unloaded region c m) c n ≡ unloaded region c (λ i. m i || n i)
unfolding keep
unloaded_both region c m n = λ x q r. at q r (ℕ_discrete q c) x
  where
    first : ℕ → Opt ℕ
    first r = keep (λ i. not (m i)) (region c r)

    second : ℕ → Opt ℕ
    second r = keep (λ i. not (n i)) (unloaded region c m c r)

    both : ℕ → Opt ℕ
    both r = keep (λ i. not (m i || n i)) (region c r)

    each : (x : Opt ℕ) → keep (λ i. not (n i)) (keep (λ i. not (m i)) x) ≡ keep (λ i. not (m i || n i)) x
    each none = refl
    each (some i) = go (m i)
      where
        go : (y : Bool) → keep (λ j. not (n j)) (cond (not y) (some i) none) ≡ cond (not (y || n i)) (some i) none
        go true = refl
        go false = refl

    at : (q r : ℕ) → Dec (q ≡ c) → unloaded (unloaded region c m) c n q r ≡ unloaded region c (λ i. m i || n i) q r
    at q r (yes z) =
        row_same (unloaded region c m) c second q r z
        ∙ rw (row_same region c first c r refl) (each (region c r))
        ∙ sym (row_same region c both q r z)
    at q r (no z) = row_other (unloaded region c m) c second q r z ∙ row_other region c first q r z ∙ sym (row_other region c both q r z)
