-- Four regions, as half a word.
use Rattle.std.specs.Prelude.{ℕ, ◌+◌, ◌*◌}
use Rattle.loops.specs.Loops.{bit_of}
use Rattle.words.specs.declared.regions_word.Region.{Region}

abbrev region_number : Region → ℕ
region_number r = bit_of r.loaded * 128 + r.slot.0

abbrev pub half_word : Region → Region → Region → Region → ℕ
half_word a b c d = region_number a * 0x100_0000 + (region_number b * 0x1_0000 + (region_number c * 256 + region_number d))
