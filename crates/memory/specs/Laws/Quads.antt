-- Laws of Quads.
use Rattle.std.specs.Prelude.{◌≡◌, true, List, ℕ, ◌+◌, ◌-◌, ◌*◌, ◌/◌, ◌%◌, ◌^◌, ◌≤◌, ◌<◌, eqb, get_or}
use Rattle.std.proofs.Common.{◌∙◌, add-zero, add_assoc, div-one, arith, eqb-true}
use Rattle.std.proofs.Math.Decide.{ℕ_discrete}
use Rattle.loops.specs.Laws.Every.{all_at}
use Rattle.loops.specs.Loops.{carried, tab_from}
use Rattle.memory.specs.Bytes.{word_from, byte_at, put_word}
use Rattle.memory.specs.Quads.{quad_at, Quad, put_quad, turned, zero_four, zero_forty}

-- a number made of two pairs of bytes
pub quad_pairs : (b : List ℕ) (i : ℕ) {p q : ℕ} → get_or b i 0 < 256 → get_or b (i + 1) 0 < 256 → get_or b (i + 2) 0 < 256
    → p ≡ get_or b i 0 + get_or b (i + 1) 0 * 256 → q ≡ get_or b (i + 2) 0 + get_or b (i + 3) 0 * 256 → Quad b i (p + q * 0x1_0000)
unfolding quad_at
quad_pairs b i f g h e k = record { whole = omega arith; byte0 = omega arith; byte1 = omega arith; byte2 = omega arith; byte3 = omega arith }

-- a word is its two halves, each turned round
pub word_halves : {b : List ℕ} {i x y : ℕ} → Quad b i x → Quad b (i + 4) y → turned x * 0x1_0000_0000 + turned y ≡ word_from b i
unfolding tab_from
word_halves {b} {i} p q =
    let e1 : i + 4 + 1 ≡ i + 5 = omega arith in
    let e2 : i + 4 + 2 ≡ i + 6 = omega arith in
    let e3 : i + 4 + 3 ≡ i + 7 = omega arith in
    rw (p.byte0, p.byte1, p.byte2, p.byte3, q.byte0, q.byte1, q.byte2, q.byte3, e1, e2, e3) (simp add-zero (omega arith))

-- the bytes of a number that is given by four bytes, most significant first
bytes_of_law : (a b c d : ℕ) → a < 256 → b < 256 → c < 256 → d < 256
    → let x : ℕ = a * 0x100_0000 + (b * 0x1_0000 + (c * 0x100 + d)) in (x % 256 ≡ d) × (x / 0x100 % 256 ≡ c) × (x / 0x1_0000 % 256 ≡ b) × (x / 0x100_0000 ≡ a)
bytes_of_law a b c d f g h k = (omega arith, omega arith, omega arith, omega arith)

-- so those of a number that was turned round are its own, in the other order
turned_bytes : (u : ℕ) → u < 0x1_0000_0000
    → (turned u % 256 ≡ u / 0x100_0000) × (turned u / 0x100 % 256 ≡ u / 0x1_0000 % 256) × (turned u / 0x1_0000 % 256 ≡ u / 0x100 % 256) × (turned u / 0x100_0000 ≡ u % 256)
turned_bytes u h = bytes_of_law (u % 256) (u / 0x100 % 256) (u / 0x1_0000 % 256) (u / 0x100_0000) (omega arith) (omega arith) (omega arith) (omega arith)

-- the bytes of a word, by its halves
high_bytes : (w : ℕ) → w < 2 ^ 64
    → (w / 0x1_0000_0000 < 0x1_0000_0000) × (w / 0x1_0000_0000 / 0x100_0000 ≡ w / 2 ^ 56 % 2 ^ 8) × (w / 0x1_0000_0000 / 0x1_0000 % 256 ≡ w / 2 ^ 48 % 2 ^ 8)
    × (w / 0x1_0000_0000 / 0x100 % 256 ≡ w / 2 ^ 40 % 2 ^ 8)
high_bytes w h = (omega arith, omega arith, omega arith, omega arith)

low_bytes : (w : ℕ)
    → (w % 0x1_0000_0000 < 0x1_0000_0000) × (w % 0x1_0000_0000 / 0x100_0000 ≡ w / 2 ^ 24 % 2 ^ 8) × (w % 0x1_0000_0000 / 0x1_0000 % 256 ≡ w / 2 ^ 16 % 2 ^ 8)
    × (w % 0x1_0000_0000 / 0x100 % 256 ≡ w / 2 ^ 8 % 2 ^ 8) × (w % 0x1_0000_0000 % 256 ≡ w % 2 ^ 8)
low_bytes w = (omega arith, omega arith, omega arith, omega arith, omega arith)

-- a word is put as its two halves, each turned round
pub put_halves : (b : List ℕ) (i w : ℕ) {x y : ℕ} → w < 2 ^ 64 → x ≡ turned (w / 0x1_0000_0000) → y ≡ turned (w % 0x1_0000_0000) → put_quad (put_quad b i x) (i + 4) y ≡ put_word b i w
unfolding carried byte_at
put_halves b i w small e f =
    let u = high_bytes w small in
    let v = low_bytes w in
    let h = turned_bytes (w / 0x1_0000_0000) u.0 in
    let l = turned_bytes (w % 0x1_0000_0000) v.0 in
    rw (e, f, h.0 ∙ u.1, h.1 ∙ u.2, h.2 ∙ u.3, h.3, l.0 ∙ v.1, l.1 ∙ v.2, l.2 ∙ v.3, l.3 ∙ v.4) (simp (add-zero, div-one, add_assoc))

-- ── bytes looked at for zeros ──
zero_four_law : (b : List ℕ) (i : ℕ) → zero_four b i ≡ true → (k : ℕ) → i ≤ k → k < i + 32 → get_or b k 0 ≡ 0
unfolding zero_four quad_at
zero_four_law b i z k h g = go ((k - i) / 4) ((k - i) % 4) (omega arith) (omega arith) (omega arith)
  where
    go : (q r : ℕ) → q < 8 → r < 4 → k ≡ i + 4 * q + r → get_or b k 0 ≡ 0
    go q r a c e =
        let n : quad_at b (i + 4 * q) ≡ 0 = eqb-true _ 0 (all_at 8 (λ q. eqb (quad_at b (i + 4 * q)) 0) z q a) in
        at (ℕ_discrete r 0) (ℕ_discrete r 1) (ℕ_discrete r 2) n
      where
        at : Dec (r ≡ 0) → Dec (r ≡ 1) → Dec (r ≡ 2) → quad_at b (i + 4 * q) ≡ 0 → get_or b k 0 ≡ 0
        at (yes x) _ _ n = let e0 : k ≡ i + 4 * q = omega arith in rw e0 (omega arith)
        at (no x) (yes y) _ n = let e1 : k ≡ i + 4 * q + 1 = omega arith in rw e1 (omega arith)
        at (no x) (no y) (yes u) n = let e2 : k ≡ i + 4 * q + 2 = omega arith in rw e2 (omega arith)
        at (no x) (no y) (no u) n = let e3 : k ≡ i + 4 * q + 3 = omega arith in rw e3 (omega arith)

-- .. of a record
pub zero_forty_law : (b : List ℕ) (i : ℕ) → zero_forty b i ≡ true → (k : ℕ) → i ≤ k → k < i + 320 → get_or b k 0 ≡ 0
unfolding zero_forty
zero_forty_law b i z k h g =
    let group : ℕ = (k - i) / 32 in
    zero_four_law b (i + 32 * group) (all_at 10 (λ g. zero_four b (i + 32 * g)) z group (omega arith)) k (omega arith) (omega arith)
