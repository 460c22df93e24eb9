-- A mask, bit by bit: `m | w` enters those of w, `m ^ (m & w)` strikes them.
use Rattle.std.specs.Prelude.{◌≡◌, refl, Bool, true, false, not, ◌&&◌, ◌||◌, ℕ, suc, ◌+◌, ◌-◌, ◌*◌, ◌/◌, ◌%◌, ◌^◌, ◌<◌, eqb}
use Rattle.std.proofs.Common.{ap, ap₂, sym, ◌∙◌, pow-suc, arith, pow-add, pow_pos, shl_exact, eq-eqb, ne_eqb}
use Rattle.std.proofs.Math.Decide.{ℕ_discrete, dec_lt}
use Rattle.std.specs.Int.Bits.{bit_and, bit_or, bit_xor}
use Rattle.std.proofs.lemmas.Nat.{or_shr, or_mod, and_shr, and_mod, xor_shr, xor_mod, shl-shr}
use Rattle.std.proofs.Math.Pow.{pow-lt, high}
use Rattle.loops.specs.Loops.{bit_of, bit, names}
use Rattle.loops.specs.Laws.Bit.{flag_bit, bit_flag}

-- a bit is the flag
flagged : (m p : ℕ) → bit m p ≡ bit_of (names m p)
unfolding names
flagged m p = sym (bit_flag (bit m p) (omega arith))

pub said : (m p : ℕ) {x : Bool} → bit m p ≡ bit_of x → names m p ≡ x
unfolding names
said m p {x} e = ap (λ (n : ℕ). eqb n 1) e ∙ flag_bit x

bit_or_law : (a b p : ℕ) → bit (bit_or a b) p ≡ bit_or (bit a p) (bit b p)
bit_or_law a b p = ap (λ (x : ℕ). x % 2 ^ 1) (or_shr a b p) ∙ or_mod (a / 2 ^ p) (b / 2 ^ p) 1

bit_and_law : (a b p : ℕ) → bit (bit_and a b) p ≡ bit_and (bit a p) (bit b p)
bit_and_law a b p = ap (λ (x : ℕ). x % 2 ^ 1) (and_shr a b p) ∙ and_mod (a / 2 ^ p) (b / 2 ^ p) 1

bit_xor_law : (a b p : ℕ) → bit (bit_xor a b) p ≡ bit_xor (bit a p) (bit b p)
bit_xor_law a b p = ap (λ (x : ℕ). x % 2 ^ 1) (xor_shr a b p) ∙ xor_mod (a / 2 ^ p) (b / 2 ^ p) 1

-- an empty mask names nobody
pub names_none : (p : ℕ) → names 0 p ≡ false
names_none p =
    let none : (0 * 2 ^ p + 0) / 2 ^ p ≡ 0 = high 0 p (pow_pos p) in
    let e : 0 * 2 ^ p + 0 ≡ 0 = omega arith in
    said 0 p (ap (λ (n : ℕ). n % 2 ^ 1) (rw e at none))

-- who is entered joins
pub names_or : (a b p : ℕ) → names (bit_or a b) p ≡ names a p || names b p
names_or a b p = said (bit_or a b) p (bit_or_law a b p ∙ ap₂ bit_or (flagged a p) (flagged b p) ∙ two (names a p) (names b p))
  where
    two : (x y : Bool) → bit_or (bit_of x) (bit_of y) ≡ bit_of (x || y)
    two true true = refl
    two true false = refl
    two false true = refl
    two false false = refl

-- who is struck goes, the others stay
pub names_struck : (m w p : ℕ) → names (bit_xor m (bit_and m w)) p ≡ names m p && not (names w p)
names_struck m w p =
    said (bit_xor m (bit_and m w)) p
    (bit_xor_law m (bit_and m w) p
    ∙ ap₂ bit_xor (flagged m p) (bit_and_law m w p ∙ ap₂ bit_and (flagged m p) (flagged w p))
    ∙ two (names m p) (names w p))
  where
    two : (x y : Bool) → bit_xor (bit_of x) (bit_and (bit_of x) (bit_of y)) ≡ bit_of (x && not y)
    two true true = refl
    two true false = refl
    two false true = refl
    two false false = refl

-- the mask of one
pub names_one : (c p : ℕ) → names (2 ^ c) p ≡ eqb p c
names_one c p = said (2 ^ c) p (go (ℕ_discrete p c) (dec_lt p c))
  where
    go : Dec (p ≡ c) → Dec (p < c) → bit (2 ^ c) p ≡ bit_of (eqb p c)
    go (yes z) _ =
        let e : 2 ^ c ≡ 1 * 2 ^ p = ap (λ (n : ℕ). 2 ^ n) (sym z) ∙ omega arith in
        rw (eq-eqb p c z) (ap (λ (x : ℕ). x / 2 ^ p % 2 ^ 1) e ∙ ap (λ (x : ℕ). x % 2 ^ 1) (shl-shr 1 p))
    go (no n) (yes d) =
        let k = c - p - 1 in
        let f : c ≡ suc k + p = omega arith in
        let e : 2 ^ c ≡ 2 ^ suc k * 2 ^ p = ap (λ (n : ℕ). 2 ^ n) f ∙ pow-add 2 (suc k) p in
        let g : 2 ^ suc k ≡ 2 ^ k * 2 = pow-suc 2 k in
        let even : 2 ^ suc k % 2 ^ 1 ≡ 0 = omega arith in
        rw (ne_eqb p c n) (ap (λ (x : ℕ). x / 2 ^ p % 2 ^ 1) e ∙ ap (λ (x : ℕ). x % 2 ^ 1) (shl-shr (2 ^ suc k) p) ∙ even)
    go (no n) (no d) =
        let small : 2 ^ c < 2 ^ p = pow-lt (omega arith) in
        let none : (0 * 2 ^ p + 2 ^ c) / 2 ^ p ≡ 0 = high 0 p small in
        let e : 0 * 2 ^ p + 2 ^ c ≡ 2 ^ c = omega arith in
        rw (ne_eqb p c n) (ap (λ (x : ℕ). x % 2 ^ 1) (rw e at none))

-- bit i alone, as 32 bits have it
pub bit_alone : (i : ℕ) → i < 32 → 1 * 2 ^ i % 2 ^ 32 ≡ 2 ^ i
bit_alone i h = shl_exact 1 i 32 (omega arith) (omega arith) ∙ omega arith
