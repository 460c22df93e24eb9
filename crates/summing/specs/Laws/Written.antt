-- The exits of the code that writes the two words of a partition.
use Rattle.std.proofs.Math.Path.{◌≡◌, refl, ap}
use Rattle.std.proofs.Common.{◌∙◌}
use Rattle.std.specs.Prelude.{true, false, ℕ, ◌^◌, ◌<◌, Result}
use Rattle.loops.specs.Loops.{map_of}
use Rattle.loops.specs.Laws.Map.{map_lt}
use Rattle.words.specs.Kind.{writing}
use Rattle.words.specs.Laws.Kind.{write_done}
use Rattle.words.specs.Words.{masks, lines}
use Rattle.words.specs.declared.masks_word.MasksFields.{MasksFields}
use Rattle.words.specs.declared.lines_word.LinesFields.{LinesFields}
use Rattle.tables.specs.State.{K, Table}
use Rattle.tables.specs.Search.{present, child}
use Rattle.sound.specs.Whole.{Right}
use Rattle.sheetrules.specs.Sheet.{occupied, structured, lines_for, masks_word, lines_word}
use Rattle.sheetrules.proofs.Laws.Words.{with_in, lines_in_law}
use Rattle.summing.specs.Sums.{word_in, Adding, children_of, masks_with}
use Rattle.summing.specs.declared.sums.Sums.{Sums}
use Rattle.summing.specs.Laws.Sums.{adding_end}
use Rattle.words.specs.declared.Refusal.{Refusal}

-- a mask of children is below 2^16
pub children_few : (k : K) (p : ℕ) {c : ℕ} → c ≡ children_of k p → c < 2 ^ 16
children_few k p e = rw e (map_lt (child k p) 0 16)

module _ {t : Table} (h : Right t) (p : ℕ) where
  pub pair_none : (c : ℕ) → present t.k p ≡ false → (0 ≡ masks_with c t p) × (0 ≡ lines_word t p)
  unfolding masks_with lines_word
  pair_none c q = (rw q refl, rw q refl)

  -- with its children
  pub with_children : {c : ℕ} → c ≡ children_of t.k p → masks_with c t p ≡ masks_word t p
  unfolding masks_with masks_word
  with_children e = rw e refl

  module _ (q : present t.k p ≡ true) {x : Sums} (sums : Adding t p 0 x) where
    pub masks_written : {c s : ℕ} {w : Result ℕ Refusal} {r : ℕ} → c < 2 ^ 16 → s ≡ map_of 4 (structured t.k p)
        → w ≡ writing masks (record { children = c; slots = x.slots; structures = s }) → r ≡ word_in w → r ≡ masks_with c t p
    unfolding masks_with
    masks_written {c} {s} few e u v =
        v
        ∙ ap word_in (u ∙ ap (writing masks) (same (adding_end sums).0 e) ∙ write_done masks (record { children = c; slots = map_of 32 (occupied t.k p); structures = map_of 4 (structured t.k p) }) (with_in h p few))
        ∙ rw q refl
      where
        same : {b c' b'' c'' : ℕ} → b ≡ b'' → c' ≡ c'' → ◌≡◌ {A = MasksFields} (record { children = c; slots = b; structures = c' }) (record { children = c; slots = b''; structures = c'' })
        same y z = cc

    pub lines_written : {w : Result ℕ Refusal} {r : ℕ} → w ≡ writing lines (record { held = x.held; opened = x.opened }) → r ≡ word_in w → r ≡ lines_word t p
    unfolding lines_word
    lines_written u v =
        v
        ∙ ap word_in (u ∙ ap (writing lines) (same (adding_end sums).1 (adding_end sums).2) ∙ write_done lines (lines_for t p) (lines_in_law h p))
        ∙ rw q refl
      where
        same : {a b a' b' : ℕ} → a ≡ a' → b ≡ b' → ◌≡◌ {A = LinesFields} (record { held = a; opened = b }) (record { held = a'; opened = b' })
        same y z = cc
