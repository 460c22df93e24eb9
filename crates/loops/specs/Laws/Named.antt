-- A mask as a map of bits: whom it names, the map says, and the other way round.
use Rattle.std.specs.Prelude.{◌≡◌, Bool, ℕ, zero, suc, ◌+◌, ◌/◌, ◌%◌, ◌^◌, ◌<◌}
use Rattle.std.proofs.Common.{ap, sym, ◌∙◌, pow-suc, arith, shr-shr}
use Rattle.loops.specs.Loops.{bit_of, bit, names, map_from, map_of}
use Rattle.loops.specs.Laws.Bit.{bit_flag}
use Rattle.loops.specs.Laws.Map.{map_bit}
use Rattle.loops.specs.Laws.Mask.{said}

pub names_map : (n : ℕ) (f : ℕ → Bool) (p : ℕ) → p < n → names (map_of n f) p ≡ f p
names_map n f p h = said (map_of n f) p (map_bit n f p h)

-- a number of n bits is the map of what they say
map_from_law : (f : ℕ → Bool) (i n m : ℕ) → m < 2 ^ n → ((j : ℕ) → j < n → bit m j ≡ bit_of (f (i + j))) → m ≡ map_from f i n
unfolding map_from
map_from_law f i zero m h told = omega arith
map_from_law f i (suc n) m h told =
    let z : i + 0 ≡ i = omega arith in
    let low = told 0 (omega arith) ∙ ap (λ (x : ℕ). bit_of (f x)) z in
    let high = map_from_law f (suc i) n (m / 2) (omega (arith, pow-suc 2 n)) (λ j b. next j b) in
    omega (arith, low, high)
  where
    next : (j : ℕ) → j < n → bit (m / 2) j ≡ bit_of (f (suc i + j))
    next j b =
        let s : 1 + j ≡ suc j = omega arith in
        let y : i + suc j ≡ suc i + j = omega arith in
        ap (λ (x : ℕ). x % 2 ^ 1) (shr-shr m 1 j) ∙ ap (λ (e : ℕ). m / 2 ^ e % 2 ^ 1) s ∙ told (suc j) (omega arith) ∙ ap (λ (x : ℕ). bit_of (f x)) y

flags : (m j : ℕ) → bit m j ≡ bit_of (names m j)
unfolding names
flags m j = sym (bit_flag (bit m j) (omega arith))

pub map_is : (n : ℕ) (f : ℕ → Bool) {m : ℕ} → m < 2 ^ n → ((j : ℕ) → j < n → names m j ≡ f j) → m ≡ map_of n f
map_is n f {m} h told = map_from_law f 0 n m h (λ j b. let z : j ≡ 0 + j = omega arith in flags m j ∙ ap bit_of (told j b) ∙ ap (λ (x : ℕ). bit_of (f x)) z)
