-- A flag that is written as a bit reads back, and a bit reads back as a flag; it is at most 1.
use Rattle.std.specs.Prelude.{◌≡◌, refl, Bool, true, false, not, ℕ, zero, suc, ◌%◌, ◌≤◌, ◌<◌, eqb}
use Rattle.std.proofs.Common.{arith}
use Rattle.loops.specs.Loops.{bit_of}

-- a flag that is written as a bit reads back
pub flag_bit : (b : Bool) → eqb (bit_of b) 1 ≡ b
flag_bit true = refl
flag_bit false = refl

-- a bit that is read as a flag writes back
pub bit_flag : (x : ℕ) → x < 2 → bit_of (eqb x 1) ≡ x
bit_flag zero h = refl
bit_flag (suc zero) h = refl
bit_flag (suc (suc x)) h = absurd (omega arith)

-- so does the lowest bit of a number
pub bit_mod : (n : ℕ) → bit_of (eqb (n % 2) 1) ≡ n % 2
bit_mod n = bit_flag (n % 2) (omega arith)

-- a bit fits in one bit
pub bit_lt : (b : Bool) → bit_of b < 2
bit_lt true = omega arith
bit_lt false = omega arith

-- a bit is at most 1
pub bit_le : (b : Bool) → bit_of b ≤ 1
bit_le true = omega arith
bit_le false = omega arith

-- a bit is 0 where the flag is false
pub bit_zero : (b : Bool) → eqb (bit_of b) 0 ≡ not b
bit_zero true = refl
bit_zero false = refl
