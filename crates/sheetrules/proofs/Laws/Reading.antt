-- What is read of the bytes of a sheet: its words, the fields in them, and that the bytes of a partition whose two words stay are as they were.
use Rattle.std.specs.Prelude.{◌≡◌, ℕ, ◌+◌, ◌*◌, ◌/◌, ◌%◌, ◌^◌, ◌<◌}
use Rattle.std.proofs.Math.Path.{ap, sym}
use Rattle.std.proofs.Common.{subst, ◌∙◌, arith}
use mathlib.Core.List.{List}
use Rattle.std.proofs.Math.Decide.{ℕ_discrete, dec_lt}
use Rattle.std.proofs.Math.ListN.{get_or}
use Rattle.loops.specs.Laws.Rewrite.{length_tab, tab_at}
use Rattle.tables.specs.State.{Table}
use Rattle.memory.specs.Bytes.{word_at, byte_at, byte_of}
use Rattle.memory.specs.Laws.ByteTrips.{words_there}
use Rattle.sound.specs.Whole.{Right}
use Rattle.sheetrules.specs.Sheet.{masks_word, lines_word, sheet_of}
use Rattle.sheetrules.specs.Bytes.{handed_sheet, sheet_bytes}
use Rattle.sheetrules.proofs.Laws.Words.{masks_small, lines_fit}
use Rattle.sheetrules.specs.Laws.Bytes.{sheet_even, sheet_odd, sheet_length, handed_words}

module _ {t : Table} (h : Right t) where
  fits : (n : ℕ) → n < 32 → get_or (sheet_of t) n 0 < 2 ^ 64
  fits n b = go (ℕ_discrete (n % 2) 0)
    where
      at : {k : ℕ} → n ≡ k → get_or (sheet_of t) k 0 < 2 ^ 64 → get_or (sheet_of t) n 0 < 2 ^ 64
      at e q = subst (λ (k : ℕ). get_or (sheet_of t) k 0 < 2 ^ 64) (sym e) q

      go : Dec (n % 2 ≡ 0) → get_or (sheet_of t) n 0 < 2 ^ 64
      go (yes z) = at {k = 2 * (n / 2)} (omega arith) (rw (sheet_even t (n / 2) (omega arith)) (masks_small h (n / 2)))
      go (no z) = at {k = 2 * (n / 2) + 1} (omega arith) (rw (sheet_odd t (n / 2) (omega arith)) (lines_fit h (n / 2)))

  -- what was written is read
  pub sheet_words : handed_sheet (sheet_bytes (sheet_of t)) ≡ sheet_of t
  unfolding sheet_bytes
  sheet_words = handed_words (sheet_bytes (sheet_of t)) (length_tab 256 _) ∙ words_there 32 (sheet_of t) (sheet_length t) fits

  word_read : (n : ℕ) → n < 32 → word_at (sheet_bytes (sheet_of t)) n ≡ get_or (sheet_of t) n 0
  unfolding sheet_bytes
  word_read n b = sym (tab_at 32 _ n b) ∙ ap (λ (x : List ℕ). get_or x n 0) (words_there 32 (sheet_of t) (sheet_length t) fits)

  module _ (p : ℕ) (b : p < 16) where
    pub sheet_masks_read : word_at (sheet_bytes (sheet_of t)) (2 * p) ≡ masks_word t p
    sheet_masks_read = word_read (2 * p) (omega arith) ∙ sheet_even t p b

    pub sheet_lines_read : word_at (sheet_bytes (sheet_of t)) (2 * p + 1) ≡ lines_word t p
    sheet_lines_read = word_read (2 * p + 1) (omega arith) ∙ sheet_odd t p b

-- the 16 bytes of p are those of its two words
pub bytes_same : (t new : Table) (p : ℕ) → p < 16 → masks_word new p ≡ masks_word t p → lines_word new p ≡ lines_word t p → (n : ℕ) → n < 16
    → get_or (sheet_bytes (sheet_of new)) (16 * p + n) 0 ≡ get_or (sheet_bytes (sheet_of t)) (16 * p + n) 0
unfolding sheet_bytes
bytes_same t new p b q r n h =
    tab_at 256 (byte_of (sheet_of new)) (16 * p + n) (omega arith)
    ∙ ap (λ (w : ℕ). byte_at w ((16 * p + n) % 8)) (go (dec_lt n 8))
    ∙ sym (tab_at 256 (byte_of (sheet_of t)) (16 * p + n) (omega arith))
  where
    go : Dec (n < 8) → get_or (sheet_of new) ((16 * p + n) / 8) 0 ≡ get_or (sheet_of t) ((16 * p + n) / 8) 0
    go (yes d) = let z : (16 * p + n) / 8 ≡ 2 * p = omega arith in rw z (sheet_even new p b ∙ q ∙ sym (sheet_even t p b))
    go (no d) = let z : (16 * p + n) / 8 ≡ 2 * p + 1 = omega arith in rw z (sheet_odd new p b ∙ r ∙ sym (sheet_odd t p b))
