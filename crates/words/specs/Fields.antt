-- Fields of a call word that fit their bits; a region that is not loaded.
use Rattle.std.specs.Prelude.{false, ◌^◌, ◌<◌}
use Rattle.words.specs.declared.call_word.CallFields.{CallFields}
use Rattle.words.specs.declared.regions_word.Region.{Region}

-- ── fields that stand in a word are below their widths ──
pub record SmallCall (f : CallFields) : Type 0 where
  pub partition : f.partition.0 < 16
  pub slot : f.slot.0 < 32
  pub other : f.other < 32
  pub line : f.line.0 < 2 ^ 27

-- ── the fields of the zero word: nothing is present, and every number is 0 ──
-- a region that is not loaded is a zero byte
abbrev pub no_region : Region
no_region = record { loaded = false; slot = record { 0 = 0 } }
