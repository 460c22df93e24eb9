-- Eight slots whose quotients by 32 add up to 0 are below 32.
use Rattle.std.specs.Prelude.{◌≡◌, ℕ, ◌+◌, ◌/◌, ◌<◌}
use Rattle.std.proofs.Common.{arith}

-- none of eight slots leaves a quotient
pub eight_slots : (a b c d e g h i : ℕ) → a / 32 + (b / 32 + (c / 32 + (d / 32 + (e / 32 + (g / 32 + (h / 32 + i / 32)))))) ≡ 0
    → (a < 32) × (b < 32) × (c < 32) × (d < 32) × (e < 32) × (g < 32) × (h < 32) × (i < 32)
eight_slots a b c d e g h i q =
    (omega arith, omega arith, omega arith, omega arith, omega arith, omega arith, omega arith, omega arith)
