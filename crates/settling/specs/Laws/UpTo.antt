-- Changed at every place a function is the new one; a value put where it stands already changes nothing.
use Rattle.std.specs.Prelude.{◌≡◌, Bool, true, false, ℕ, ◌+◌, ◌≤◌, ◌<◌, ltb}
use Rattle.std.proofs.Math.Path.{refl}
use Rattle.std.proofs.Common.{ap, sym, ◌∙◌, arith, ltb-true, ltb-false, lt-ltb, le-ltb}
use Rattle.std.proofs.Math.Decide.{ℕ_discrete}
use Rattle.tables.specs.Update.{upd, upd1}
use Rattle.tables.specs.Laws.Update.{upd_same, upd_other, upd1_same, upd1_other, row_same, row_other}
use Rattle.settling.specs.UpTo.{up_to}

module _ {A : Type 0} (n : ℕ) (f g : ℕ → A) where
  up_below : (k : ℕ) → k < n → up_to n f g k ≡ f k
  unfolding up_to
  up_below k h = rw (lt-ltb k n h) refl

  pub up_above : (k : ℕ) → n ≤ k → up_to n f g k ≡ g k
  unfolding up_to
  up_above k h = rw (le-ltb k n h) refl

-- nothing is changed yet
pub up_start : {A : Type 0} (f g : ℕ → A) → up_to 0 f g ≡ g
up_start f g = λ x k. up_above 0 f g k (omega arith) x

module _ {A : Type 0} (n : ℕ) (f g : ℕ → A) where
  -- one place more
  pub up_more : upd1 (up_to n f g) n (f n) ≡ up_to (n + 1) f g
  up_more = λ x k. at k (ℕ_discrete k n) (ltb k n) refl x
    where
      at : (k : ℕ) → Dec (k ≡ n) → (b : Bool) → ltb k n ≡ b → upd1 (up_to n f g) n (f n) k ≡ up_to (n + 1) f g k
      at k (yes z) b u = upd1_same (up_to n f g) n (f n) k z ∙ ap f (sym z) ∙ sym (up_below (n + 1) f g k (omega arith))
      at k (no z) true u =
          let h = ltb-true k n u in
          upd1_other (up_to n f g) n (f n) k z ∙ up_below n f g k h ∙ sym (up_below (n + 1) f g k (omega arith))
      at k (no z) false u =
          let h = ltb-false k n u in
          upd1_other (up_to n f g) n (f n) k z ∙ up_above n f g k h ∙ sym (up_above (n + 1) f g k (omega arith))

  -- from n on nothing is to be changed
  pub up_end : ((k : ℕ) → n ≤ k → g k ≡ f k) → up_to n f g ≡ f
  up_end h = λ x k. at k (ltb k n) refl x
    where
      at : (k : ℕ) (b : Bool) → ltb k n ≡ b → up_to n f g k ≡ f k
      at k true u = up_below n f g k (ltb-true k n u)
      at k false u = up_above n f g k (ltb-false k n u) ∙ h k (ltb-false k n u)

-- one value of a row that was changed
pub upd_row_put : {A : Type 0} (f : ℕ → ℕ → A) (p : ℕ) (g : ℕ → A) (i : ℕ) (a : A) → upd (upd1 f p g) p i a ≡ upd1 f p (upd1 g i a)
upd_row_put f p g i a = λ x q j. at q j (ℕ_discrete q p) (ℕ_discrete j i) x
  where
    at : (q j : ℕ) → Dec (q ≡ p) → Dec (j ≡ i) → upd (upd1 f p g) p i a q j ≡ upd1 f p (upd1 g i a) q j
    at q j (yes z) (yes y) = upd_same (upd1 f p g) p i a q j (z, y) ∙ sym (row_same f p (upd1 g i a) q j z ∙ upd1_same g i a j y)
    at q j (yes z) (no y) =
        upd_other (upd1 f p g) p i a q j (λ w. y w.1) ∙ row_same f p g q j z ∙ sym (row_same f p (upd1 g i a) q j z ∙ upd1_other g i a j y)
    at q j (no z) d =
        upd_other (upd1 f p g) p i a q j (λ w. z w.0) ∙ row_other f p g q j z ∙ sym (row_other f p (upd1 g i a) q j z)
