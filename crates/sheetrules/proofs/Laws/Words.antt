-- The fields of the sheet fit their bits, so they are read back from its words.
use Rattle.std.specs.Prelude.{◌≡◌, Bool, ℕ, ◌^◌, ◌≤◌, ◌<◌, Ok}
use Rattle.std.proofs.Math.Path.{refl}
use Rattle.std.proofs.Math.Bool.{true, false, cond}
use native.Mathlib.Omega.{arith}
use Rattle.loops.specs.Loops.{map_of}
use Rattle.loops.specs.Laws.Count.{sum_fewer}
use Rattle.loops.specs.Laws.Map.{map_lt}
use Rattle.words.specs.Kind.{word_of, reading, InRange}
use Rattle.words.specs.Laws.Kind.{word_small}
use Rattle.words.specs.Words.{masks, lines}
use Rattle.words.specs.Laws.Kinds.{masks_range, lines_range, masks_lawful, lines_lawful, masks_read, lines_read}
use Rattle.tables.specs.State.{Table}
use Rattle.tables.specs.Search.{present, child}
use Rattle.sound.specs.Whole.{Right}
use Rattle.sheetrules.specs.Sheet.{occupied, structured, masks_of, held_at, opened_at, held_lines, open_lines, lines_for, masks_word, lines_word}
use Rattle.sheetrules.specs.Laws.Held.{held_le}

-- ── in range ──
pub open_le : (t : Table) (p : ℕ) → open_lines t p ≤ held_lines t.k p
open_le t p = sum_fewer 32 (opened_at t p) (held_at t.k p) (λ i _. less (t.opened p i))
  where
    less : (b : Bool) {x : ℕ} → cond b x 0 ≤ x
    less true = omega arith
    less false = omega arith

module _ {t : Table} (h : Right t) (p : ℕ) where
  -- whatever the mask of children is
  pub with_in : {c : ℕ} → c < 2 ^ 16 → InRange masks (record { children = c; slots = map_of 32 (occupied t.k p); structures = map_of 4 (structured t.k p) })
  with_in few = masks_range _ few (map_lt (occupied t.k p) 0 32) (map_lt (structured t.k p) 0 4)

  pub masks_in : InRange masks (masks_of t.k p)
  masks_in = with_in (map_lt (child t.k p) 0 16)

  pub lines_in_law : InRange lines (lines_for t p)
  lines_in_law =
      let held = held_le h.core p in
      lines_range (lines_for t p) (omega (arith, held, h.stop)) (omega (arith, held, h.stop, open_le t p))

  -- so the words fit 64 bits
  pub masks_small : masks_word t p < 2 ^ 64
  unfolding masks_word
  masks_small = go (present t.k p)
    where
      go : (b : Bool) → cond b (word_of masks (masks_of t.k p)) 0 < 2 ^ 64
      go true = word_small masks_lawful (masks_of t.k p) masks_in
      go false = omega arith

  pub lines_fit : lines_word t p < 2 ^ 64
  unfolding lines_word
  lines_fit = go (present t.k p)
    where
      go : (b : Bool) → cond b (word_of lines (lines_for t p)) 0 < 2 ^ 64
      go true = word_small lines_lawful (lines_for t p) lines_in_law
      go false = omega arith

  -- ── what is read of a present partition ──
  pub masks_back : present t.k p ≡ true → reading masks (masks_word t p) ≡ Ok (masks_of t.k p)
  unfolding masks_word
  masks_back q = rw q (masks_read (masks_of t.k p) masks_in)

  pub lines_back : present t.k p ≡ true → reading lines (lines_word t p) ≡ Ok (lines_for t p)
  unfolding lines_word
  lines_back q = rw q (lines_read (lines_for t p) lines_in_law)

  -- .. of an absent one
  pub pair_absent : present t.k p ≡ false → (0 ≡ masks_word t p) × (0 ≡ lines_word t p)
  unfolding masks_word lines_word
  pair_absent q = (rw q refl, rw q refl)
