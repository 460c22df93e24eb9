-- Four bytes read or written at once as they lie, the first least significant: a processor that accesses any address does that in one instruction. A word has its most significant byte first, so each half of it is turned round.
use Rattle.std.specs.Prelude.{◌≡◌, Bool, List, ℕ, ◌+◌, ◌*◌, ◌/◌, ◌%◌, eqb, get_or, set}
use Rattle.loops.specs.Loops.{all}

-- the number that the four bytes of b from byte i on are
unfoldable pub quad_at : List ℕ → ℕ → ℕ
quad_at b i = get_or b i 0 + (get_or b (i + 1) 0 * 0x100 + (get_or b (i + 2) 0 * 0x1_0000 + get_or b (i + 3) 0 * 0x100_0000))

-- .. each of them its part of the number
pub record Quad (b : List ℕ) (i x : ℕ) : Type 0 where
  pub whole : x ≡ quad_at b i
  pub byte0 : x % 256 ≡ get_or b i 0
  pub byte1 : x / 0x100 % 256 ≡ get_or b (i + 1) 0
  pub byte2 : x / 0x1_0000 % 256 ≡ get_or b (i + 2) 0
  pub byte3 : x / 0x100_0000 ≡ get_or b (i + 3) 0

-- the bytes b with the four of x put from byte i on
abbrev pub put_quad : List ℕ → ℕ → ℕ → List ℕ
put_quad b i x = set (set (set (set b i (x % 256)) (i + 1) (x / 0x100 % 256)) (i + 2) (x / 0x1_0000 % 256)) (i + 3) (x / 0x100_0000)

-- the four bytes of x the other way round
abbrev pub turned : ℕ → ℕ
turned x = x % 256 * 0x100_0000 + (x / 0x100 % 256 * 0x1_0000 + (x / 0x1_0000 % 256 * 0x100 + x / 0x100_0000))

-- ── bytes looked at for zeros ──
-- the 32 bytes of b from byte i on, four words, are zero
unfoldable pub zero_four : List ℕ → ℕ → Bool
zero_four b i = all 8 (λ q. eqb (quad_at b (i + 4 * q)) 0)

-- .. and the 320 of a record
unfoldable pub zero_forty : List ℕ → ℕ → Bool
zero_forty b i = all 10 (λ g. zero_four b (i + 32 * g))
