-- A record of zero words.
use Rattle.std.specs.Prelude.{◌≡◌, List, ℕ, ◌<◌}
use Rattle.tables.specs.View.{record_word}

-- ── the 40 words of p are zero ──
abbrev pub ZeroWords : List ℕ → ℕ → Type 0
ZeroWords l p = (o : ℕ) → o < 40 → record_word l p o ≡ 0
