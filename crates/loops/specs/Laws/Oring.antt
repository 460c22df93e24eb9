-- One word that gathers the bits of many. A loop that ors them together tells whether all are 0.
use Rattle.std.specs.Prelude.{◌≡◌, ◌&&◌, ℕ, ◌+◌, ◌≤◌, ◌<◌, eqb}
use Rattle.std.proofs.Common.{sym, ◌∙◌, arith}
use Rattle.std.specs.Int.Bits.{bit_or, or_add_and}
use Rattle.std.proofs.lemmas.Nat.{and_le_l, and_le_r}
use Rattle.loops.specs.Loops.{all}
use Rattle.loops.specs.Laws.Every.{all_zero, all_more}
use Rattle.loops.specs.Laws.Count.{zero_both}

-- At i, x is 0 exactly if each word below i is.
pub record Oring (f : ℕ → ℕ) (n i x : ℕ) : Type 0 where
  pub within : i ≤ n
  pub says : eqb x 0 ≡ all i (λ k. eqb (f k) 0)

-- two words ored are 0 exactly if both are
pub or_none : (a b : ℕ) → eqb (bit_or a b) 0 ≡ eqb a 0 && eqb b 0
or_none a b =
    let s = or_add_and a b in
    let l = and_le_l a b in
    let r = and_le_r a b in
    zero_both (bit_or a b) a b (omega arith) (omega arith) (omega arith)

module _ {f : ℕ → ℕ} {n : ℕ} where
  pub or_start : Oring f n 0 0
  or_start = record { within = omega arith; says = sym (all_zero (λ k. eqb (f k) 0)) }

  module _ {i x : ℕ} (inv : Oring f n i x) where
    pub or_on : {y : ℕ} → i < n → y ≡ f i → Oring f n (i + 1) (bit_or x y)
    or_on {y} h q = record {
      within = omega arith;
      says = or_none x y ∙ rw (inv.says, q) (sym (all_more i (λ k. eqb (f k) 0)));
    }

    pub or_end : n ≤ i → eqb x 0 ≡ all n (λ k. eqb (f k) 0)
    or_end h = let z : i ≡ n = omega (arith, inv.within) in rw (← z) inv.says
