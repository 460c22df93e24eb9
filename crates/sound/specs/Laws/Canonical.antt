-- Sound words are canonical: each is the one that the table is written with. Canonical words pass S3.
use Rattle.std.specs.Prelude.{◌≡◌, List, ℕ, ◌+◌, ◌-◌, ◌<◌}
use Rattle.std.proofs.Common.{arith}
use Rattle.shapes.specs.declared.Board.{Board}
use Rattle.tables.specs.View.{area_word_at, view}
use Rattle.tables.specs.Encode.{structure_word, Canon}
use Rattle.tables.specs.Fitting.{Words}
use Rattle.tables.specs.Laws.Spelling.{SpellsAt, spells_canon, zero_areas}
use Rattle.tables.specs.Laws.Canonical.{first_kept, header_kept, structure_kept, slot_kept, regions_kept, header_clean, structure_clean, regions_clean, unloaded_blank, blank_clean}
use Rattle.sound.specs.Sound.{Sound, S3}
use Rattle.sound.specs.Laws.Sound.{s2_of, s3_first_of, s3_of, s4_of, s5_of}

module _ {board : Board} {l : List ℕ} (fits : Words l) (s : Sound board l) where
  record_kept : (p : ℕ) → p < 16 → SpellsAt l (view l) p
  record_kept p b =
      let z = s3_of s p b in
      record {
        header = header_kept fits p b z.header_bits (λ n. zero_areas l p ((s2_of s p b).absent n) 0 (omega arith));
        structure = λ j x y. structures (j - 1) j (omega arith) y;
        regions = regions_kept fits p b z.region_bits z.unloaded;
        blank = z.blank;
        slot = λ i x. slot_kept fits p b i x ((s5_of s p b).other i x);
      }
    where
      structures : (i j : ℕ) → 1 + i ≡ j → j < 5 → area_word_at l p j ≡ structure_word ((view l).k.area p j)
      structures i j e y = rw (← e) (structure_kept fits p b i (omega arith) ((s3_of s p b).structure_bits i (omega arith)) ((s4_of s p b).absent i (omega arith)))

  pub sound_canon : Canon l
  sound_canon = spells_canon s.size (record { first = first_kept fits (s3_first_of s); at = record_kept })

pub canon_s3 : {l : List ℕ} → Canon l → (p : ℕ) → p < 16 → S3 l p
canon_s3 c p b = record {
  header_bits = header_clean c p b;
  structure_bits = structure_clean c p b;
  region_bits = regions_clean c p b;
  unloaded = λ r _. unloaded_blank c p b r;
  blank = blank_clean c p b;
}
