-- A partition whose 40 words are zero passes S3 to S11; of S8, that its areas are backed.
use Rattle.std.specs.Prelude.{◌≡◌, refl, Bool, true, List, ℕ, ◌+◌}
use Rattle.std.proofs.Common.{ap, arith}
use Rattle.std.proofs.Math.Bool.{or-true, beq}
use borrow.Author.Tests.{eq-eqb, ne_eqb, le-leb}
use Rattle.loops.specs.Loops.{all}
use Rattle.loops.specs.Laws.Every.{all_of, all_true}
use Rattle.words.specs.Laws.Kind.{zero_zeroed}
use Rattle.words.specs.Words.{header, structure, regions}
use Rattle.words.specs.declared.regions_word.Region.{Region}
use Rattle.shapes.specs.declared.Board.{Board}
use Rattle.tables.specs.State.{none, Entry}
use Rattle.tables.specs.View.{view}
use Rattle.tables.specs.Spelling.{ZeroWords}
use Rattle.tables.specs.Laws.Spelling.{zero_areas, zero_regions, zero_blanks_law, zero_slots}
use Rattle.tables.specs.Laws.ZeroWord.{no_area, not_open, blank_regions}
use Rattle.tables.specs.ZeroRecord.{zero_record}
use Rattle.tables.specs.Laws.ZeroRecord.{zero_area, zero_record_means, zero_entry, zero_region}
use Rattle.tables.specs.Search.{present}
use Rattle.tables.specs.Settle.{open_bit, open_at}
use Rattle.memory.specs.ByteRecords.{HeaderTells}
use Rattle.sound.specs.Sound.{Sound}
use Rattle.sound.specs.Laws.Sound.{s2_of}
use Rattle.sound.specs.Clauses.{when, s3, rooted, s4_area, s4_absent, s4, s5_slot, s5, apart_e, s6, s7_given, s7_whole, s7, s8_backed, s9, s10_names, s10_once, s10, s11_within, s11_equal, s11}
use Rattle.sound.specs.Laws.Limit.{none_loaded}
use Rattle.sound.specs.Laws.Tests.{and_true}
use Rattle.sound.proofs.Laws.MeansWords.{s3_means}

-- in a sound table the header's word alone tells that a partition is absent
pub header_tells : {board : Board} {l : List ℕ} → Sound board l → HeaderTells l
header_tells {l = l} s = record { zero = λ p b q. (s2_of s p b).absent (no_area l p 0 (λ _ _. q)) }

-- ── a zero record ──
module _ (l : List ℕ) (p : ℕ) (z : zero_record l p ≡ true) where
  words : ZeroWords l p
  words = (zero_record_means l p).0 z

  area_none : (j : ℕ) → (view l).k.area p j ≡ none
  area_none j = zero_area l p z (omega arith) j

  -- a test of every entry passes
  no_entries : (f : ℕ → Entry → Bool) → all 32 (λ i. when (f i) ((view l).k.slot p i)) ≡ true
  unfolding when
  no_entries f = all_of 32 (λ i. when (f i) ((view l).k.slot p i)) (λ i h. rw (zero_entry l p z i) refl)

  pub absent_s3 : s3 l p ≡ true
  absent_s3 = (s3_means l p).1 (record {
    header_bits = rw (zero_areas l p words 0 (omega arith)) (zero_zeroed header);
    structure_bits = λ j b. rw (zero_areas l p words (1 + j) (omega arith)) (zero_zeroed structure);
    region_bits = rw (zero_regions l p words) (zero_zeroed regions);
    unloaded = λ r b _. ap (λ (x : Region). x.slot.0) (blank_regions l p (zero_regions l p words) r b);
    blank = zero_blanks_law l p words;
  })

  pub absent_s4 : (p ≡ 0 → ⊥) → s4 l (view l).k p ≡ true
  unfolding s4 s4_area s4_absent when rooted
  absent_s4 n =
      and_true _ _
      (all_of 5 (s4_area (view l).k p) (λ j h. rw (area_none j) refl))
      (all_of 4 (s4_absent l (view l).k p) (λ j h. rw (area_none (1 + j), zero_areas l p words (1 + j) (omega arith), ne_eqb p 0 n) refl))

  pub absent_s5 : s5 l (view l).k p ≡ true
  unfolding s5 s5_slot
  absent_s5 = all_of 32 (s5_slot l (view l).k p) (λ i h. rw (zero_entry l p z i) (eq-eqb _ 0 (zero_slots l p words i h)))

  pub absent_s6 : s6 (view l).k p ≡ true
  unfolding s6 apart_e when
  absent_s6 = all_of 32 (λ i. all i (λ j. apart_e ((view l).k.slot p i) ((view l).k.slot p j))) (λ i h. rw (zero_entry l p z i) (all_true i))

  pub absent_s7 : (p ≡ 0 → ⊥) → s7 (view l) p ≡ true
  unfolding s7 s7_given s7_whole present
  absent_s7 n = rw (ne_eqb p 0 n, area_none 0) (and_true _ _ (and_true _ _ (no_entries _) (no_entries _)) refl)

  pub absent_s8 : all 5 (s8_backed (view l).k p) ≡ true
  unfolding s8_backed when
  absent_s8 = all_of 5 (s8_backed (view l).k p) (λ j h. rw (area_none j) (or-true (rooted p j)))

  pub absent_s9 : s9 (view l) p ≡ true
  unfolding s9 open_at open_bit
  absent_s9 = all_of 32 (λ i. beq ((view l).opened p i) (open_at (view l).k p i)) (λ i h. rw (zero_entry l p z i, not_open l p i (λ _ b. zero_slots l p words i b)) refl)

  pub absent_s10 : (board : Board) → s10 board (view l) p ≡ true
  unfolding s10 s10_names s10_once when
  absent_s10 board =
      and_true _ _
      (and_true _ _
      (all_of 8 (s10_names (view l) p) (λ r h. rw (zero_region l p z r) refl))
      (all_of 8 (λ r. all r (s10_once (view l) p r)) (λ r h. rw (zero_region l p z r) (all_true r))))
      (le-leb _ 8 (none_loaded board (view l).k.slot (view l).region p (λ r h. zero_region l p z r)))

  pub absent_s11 : (p ≡ 0 → ⊥) → s11 (view l).k p ≡ true
  unfolding s11 s11_within s11_equal
  absent_s11 n = rw (ne_eqb p 0 n) (and_true _ _ (no_entries _) (no_entries _))
