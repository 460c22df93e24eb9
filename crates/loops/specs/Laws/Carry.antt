-- A loop that carries a value: its first, next and last turn; and what each turn keeps holds in the end.
use Rattle.std.specs.Prelude.{◌≡◌}
use Rattle.std.proofs.Math.Path.{refl, sym, subst}
use Rattle.std.proofs.Common.{ap, ◌∙◌, arith}
use Prim.Native.Nat.{ℕ, zero, suc, ◌+◌, ◌≤◌, ◌<◌}
use Rattle.std.proofs.Math.Numerals.{add-one}
use Rattle.loops.specs.Loops.{carried}

-- At i, s is what the turns below i made of e.
pub record Doing {A : Type 0} (step : ℕ → A → A) (e : A) (n i : ℕ) (s : A) : Type 0 where
  pub within : i ≤ n
  pub made : s ≡ carried step e i

module _ {A : Type 0} (step : ℕ → A → A) (e : A) where
  pub done_none : carried step e 0 ≡ e
  unfolding carried
  done_none = refl

  pub done_more : (n : ℕ) → carried step e (n + 1) ≡ step n (carried step e n)
  unfolding carried
  done_more n = rw add-one refl

  -- what each turn keeps holds in the end
  pub done_keeps : (P : ℕ → A → Type 0) (n : ℕ) → P 0 e → ((k : ℕ) (a : A) → k < n → P k a → P (k + 1) (step k a)) → P n (carried step e n)
  unfolding carried
  done_keeps P zero z on = z
  done_keeps P (suc n) z on =
      subst (λ (k : ℕ). P k (step n (carried step e n))) (add-one n)
      (on n _ (omega arith) (done_keeps P n z (λ k a b. on k a (omega arith))))

-- turns that do the same below n
pub done_ext : {A : Type 0} (step next : ℕ → A → A) (e : A) (n : ℕ) → ((k : ℕ) (a : A) → k < n → step k a ≡ next k a) → carried step e n ≡ carried next e n
unfolding carried
done_ext step next e zero same = refl
done_ext step next e (suc n) same =
    ap (step n) (done_ext step next e n (λ k a b. same k a (omega arith))) ∙ same n _ (omega arith)

module _ {A : Type 0} {step : ℕ → A → A} {e : A} {n : ℕ} where
  pub do_start : Doing step e n 0 e
  do_start = record { within = omega arith; made = sym (done_none step e) }

  module _ {i : ℕ} {s : A} (inv : Doing step e n i s) where
    pub do_on : {t : A} → i < n → t ≡ step i s → Doing step e n (i + 1) t
    do_on h q = record { within = omega arith; made = q ∙ ap (step i) inv.made ∙ sym (done_more step e i) }

    pub do_end : n ≤ i → s ≡ carried step e n
    do_end h = let z : i ≡ n = omega (arith, inv.within) in inv.made ∙ ap (carried step e) z
