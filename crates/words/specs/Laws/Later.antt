-- The word of the regions, moved up by a byte: which regions it has, and that it is 0 after eight times at most.
use Rattle.std.specs.Prelude.{◌≡◌, refl, Bool, not, ℕ, zero, suc, ◌+◌, ◌*◌, ◌/◌, ◌%◌, ◌≤◌, ◌<◌, eqb}
use Rattle.std.proofs.Common.{ap, sym, ◌∙◌, arith, ne_eqb}
use Rattle.loops.specs.Loops.{bit_of}
use Rattle.loops.specs.Laws.Bit.{bit_le}
use Rattle.words.specs.Kind.{fields_in}
use Rattle.words.specs.Words.{regions}
use Rattle.words.specs.Fields.{no_region}
use Rattle.words.specs.declared.regions_word.Region.{Region}
use Rattle.words.specs.declared.regions_word.RegionsFields.{RegionsFields}
use Rattle.words.specs.Later.{later_regions}

-- ── its regions ──
-- those of g are those of f, each one place earlier
pub record Earlier (f g : RegionsFields) : Type 0 where
  pub region0 : g.region0 ≡ f.region1
  pub region1 : g.region1 ≡ f.region2
  pub region2 : g.region2 ≡ f.region3
  pub region3 : g.region3 ≡ f.region4
  pub region4 : g.region4 ≡ f.region5
  pub region5 : g.region5 ≡ f.region6
  pub region6 : g.region6 ≡ f.region7
  pub region7 : g.region7 ≡ no_region

abbrev region_of : ℕ → ℕ → Region
region_of b s = record { loaded = eqb b 1; slot = record { 0 = s } }

same_numbers : (b s c t : ℕ) → b ≡ c → s ≡ t → region_of b s ≡ region_of c t
same_numbers b s c t q r = rw (q, r) refl

pub later_fields : (w : ℕ) → Earlier (fields_in regions w) (fields_in regions (later_regions w))
unfolding regions later_regions
later_fields w = record {
  region0 = same_numbers (w % 0x100_0000_0000_0000 * 256 / 0x8000_0000_0000_0000 % 2) (w % 0x100_0000_0000_0000 * 256 / 0x100_0000_0000_0000 % 32) (w / 0x80_0000_0000_0000 % 2) (w / 0x1_0000_0000_0000 % 32) (omega arith) (omega arith);
  region1 = same_numbers (w % 0x100_0000_0000_0000 * 256 / 0x80_0000_0000_0000 % 2) (w % 0x100_0000_0000_0000 * 256 / 0x1_0000_0000_0000 % 32) (w / 0x8000_0000_0000 % 2) (w / 0x100_0000_0000 % 32) (omega arith) (omega arith);
  region2 = same_numbers (w % 0x100_0000_0000_0000 * 256 / 0x8000_0000_0000 % 2) (w % 0x100_0000_0000_0000 * 256 / 0x100_0000_0000 % 32) (w / 0x80_0000_0000 % 2) (w / 0x1_0000_0000 % 32) (omega arith) (omega arith);
  region3 = same_numbers (w % 0x100_0000_0000_0000 * 256 / 0x80_0000_0000 % 2) (w % 0x100_0000_0000_0000 * 256 / 0x1_0000_0000 % 32) (w / 0x8000_0000 % 2) (w / 0x100_0000 % 32) (omega arith) (omega arith);
  region4 = same_numbers (w % 0x100_0000_0000_0000 * 256 / 0x8000_0000 % 2) (w % 0x100_0000_0000_0000 * 256 / 0x100_0000 % 32) (w / 0x80_0000 % 2) (w / 0x1_0000 % 32) (omega arith) (omega arith);
  region5 = same_numbers (w % 0x100_0000_0000_0000 * 256 / 0x80_0000 % 2) (w % 0x100_0000_0000_0000 * 256 / 0x1_0000 % 32) (w / 0x8000 % 2) (w / 256 % 32) (omega arith) (omega arith);
  region6 = same_numbers (w % 0x100_0000_0000_0000 * 256 / 0x8000 % 2) (w % 0x100_0000_0000_0000 * 256 / 256 % 32) (w / 128 % 2) (w / 1 % 32) (omega arith) (omega arith);
  region7 = same_numbers (w % 0x100_0000_0000_0000 * 256 / 128 % 2) (w % 0x100_0000_0000_0000 * 256 / 1 % 32) 0 0 (omega arith) (omega arith);
}

-- ── how often it can be moved ──
-- 1, unless the number is 0
abbrev some : ℕ → ℕ
some x = bit_of (not (eqb x 0))

-- its bytes up to the last that is not 0
unfoldable pub bytes_left : ℕ → ℕ
bytes_left w = some w + (some (w % 0x100_0000_0000_0000) + (some (w % 0x1_0000_0000_0000) + (some (w % 0x100_0000_0000) + (some (w % 0x1_0000_0000) + (some (w % 0x100_0000) + (some (w % 0x1_0000) + some (w % 256)))))))

some_le : (x : ℕ) → some x ≤ 1
some_le x = bit_le (not (eqb x 0))

some_pos : (x : ℕ) → 0 < x → some x ≡ 1
some_pos x h = ap (λ (b : Bool). bit_of (not b)) (ne_eqb x 0 (λ z. omega arith))

some_moved : (x y : ℕ) → y ≡ x * 256 → some y ≡ some x
some_moved zero y q = rw q refl
some_moved (suc x) y q = some_pos y (omega arith) ∙ sym (some_pos (suc x) (omega arith))

pub bytes_few : (w : ℕ) → bytes_left w ≤ 8
unfolding bytes_left
bytes_few w = omega (arith, some_le w, some_le (w % 0x100_0000_0000_0000), some_le (w % 0x1_0000_0000_0000), some_le (w % 0x100_0000_0000), some_le (w % 0x1_0000_0000), some_le (w % 0x100_0000), some_le (w % 0x1_0000), some_le (w % 256))

pub bytes_later : (w : ℕ) → 0 < w → bytes_left (later_regions w) + 1 ≡ bytes_left w
unfolding bytes_left later_regions
bytes_later w h =
    rw (
      some_pos w h,
      some_moved (w % 0x100_0000_0000_0000) _ refl,
      some_moved (w % 0x1_0000_0000_0000) (w % 0x100_0000_0000_0000 * 256 % 0x100_0000_0000_0000) (omega arith),
      some_moved (w % 0x100_0000_0000) (w % 0x100_0000_0000_0000 * 256 % 0x1_0000_0000_0000) (omega arith),
      some_moved (w % 0x1_0000_0000) (w % 0x100_0000_0000_0000 * 256 % 0x100_0000_0000) (omega arith),
      some_moved (w % 0x100_0000) (w % 0x100_0000_0000_0000 * 256 % 0x1_0000_0000) (omega arith),
      some_moved (w % 0x1_0000) (w % 0x100_0000_0000_0000 * 256 % 0x100_0000) (omega arith),
      some_moved (w % 256) (w % 0x100_0000_0000_0000 * 256 % 0x1_0000) (omega arith),
      some_moved 0 (w % 0x100_0000_0000_0000 * 256 % 256) (omega arith),
    ) (omega arith)

-- a loop that moves it on ends
pub bytes_fall : {w v : ℕ} → v ≡ later_regions w → 0 < w → bytes_left v < bytes_left w
bytes_fall {w} q h = rw q (omega (arith, bytes_later w h))
