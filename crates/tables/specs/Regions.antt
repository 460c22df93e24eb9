-- The eight regions of a partition, one of them replaced.
use Rattle.std.specs.Prelude.{cond, eqb, ℕ}
use Rattle.words.specs.declared.regions_word.Region.{Region}
use Rattle.words.specs.declared.regions_word.RegionsFields.{RegionsFields}

-- x for region r
abbrev pub with_region : RegionsFields → ℕ → Region → RegionsFields
with_region f r x = record {
  region0 = cond (eqb r 0) x f.region0;
  region1 = cond (eqb r 1) x f.region1;
  region2 = cond (eqb r 2) x f.region2;
  region3 = cond (eqb r 3) x f.region3;
  region4 = cond (eqb r 4) x f.region4;
  region5 = cond (eqb r 5) x f.region5;
  region6 = cond (eqb r 6) x f.region6;
  region7 = cond (eqb r 7) x f.region7;
}
