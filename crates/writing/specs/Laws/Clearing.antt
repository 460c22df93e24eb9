-- The loop that zeroes the 40 words of a record, one a turn.
use Rattle.std.specs.Prelude.{◌≡◌, refl, Bool, true, false, cond, List, get_or, set, eqb, ltb, ℕ, ◌+◌, ◌-◌, ◌*◌, ◌/◌, ◌≤◌, ◌<◌}
use Rattle.std.proofs.Common.{subst, ◌∙◌, ltb-true, ltb-false, eq-eqb, ne_eqb, arith}
use Rattle.std.proofs.Math.Decide.{ℕ_discrete}
use Rattle.loops.specs.Loops.{Filling}
use Rattle.loops.specs.Laws.Rewrite.{fill_put, tab_is}
use Rattle.tables.specs.View.{view}
use Rattle.tables.specs.Encode.{Is}
use Rattle.tables.specs.Laws.Encode.{canon_length, canon_is}
use Rattle.tables.specs.Write.{clear_record}
use Rattle.tables.specs.Laws.Writes.{cleared_word, record_clear}
use Rattle.writing.specs.CanWrite.{CanRecord}

-- At o, s is l with the first o words of the record of p zeroed; `cleared_word` leaves the words before the record.
pub record Clearing (l : List ℕ) (p o : ℕ) (s : List ℕ) : Type 0 where
  pub within : o ≤ 40
  pub words : Filling (cleared_word p) l 641 (1 + 40 * p + o) s

-- ── a word outside the record, and in it ──
word_kept : (p n w : ℕ) → (0 < n → (n - 1) / 40 ≡ p → ⊥) → w ≡ cleared_word p n w
unfolding cleared_word
word_kept p n w h = go (ℕ_discrete n 0)
  where
    go : Dec (n ≡ 0) → w ≡ cond (eqb n 0) w (cond (eqb ((n - 1) / 40) p) 0 w)
    go (yes z) = rw (eq-eqb n 0 z) refl
    go (no z) = rw (ne_eqb n 0 z, ne_eqb ((n - 1) / 40) p (h (omega arith))) refl

word_zeroed : (p o w : ℕ) → o < 40 → 0 ≡ cleared_word p (1 + 40 * p + o) w
unfolding cleared_word
word_zeroed p o w h = rw (ne_eqb (1 + 40 * p + o) 0 (λ z. omega arith), eq-eqb ((1 + 40 * p + o - 1) / 40) p (omega arith)) refl

-- ── laws of the loop ──
pub clear_start : {l : List ℕ} {p : ℕ} → CanRecord l p → Clearing l p 0 l
clear_start {l} {p} c = record {
  within = omega arith;
  words = record {
    within = omega (arith, c.in_p);
    size = canon_length c.canon;
    below = λ k b. word_kept p k (get_or l k 0) (λ h e. omega arith);
    above = λ k b. refl;
  };
}

module _ {l : List ℕ} {p o : ℕ} {s : List ℕ} (can : CanRecord l p) (inv : Clearing l p o s) where
  -- the store `s[1 + 40 * p + o] = 0`
  pub clear_on : o < 40 → Clearing l p (o + 1) (set s (1 + 40 * p + o) 0)
  clear_on h =
      let n : 1 + 40 * p + o + 1 ≡ 1 + 40 * p + (o + 1) = omega arith in
      record {
        within = omega arith;
        words = subst (λ (k : ℕ). Filling (cleared_word p) l 641 k (set s (1 + 40 * p + o) 0)) n
            (fill_put inv.words (omega (arith, can.in_p)) (word_zeroed p o _ h));
      }

  pub clear_end : 40 ≤ o → Is s (clear_record (view l) p)
  clear_end h =
      rw (tab_is 641 (λ k. cleared_word p k (get_or l k 0)) s inv.words.size (λ k b. go k (ltb k (1 + 40 * p + o)) refl))
      (record_clear (canon_is can.canon) p)
    where
      go : (k : ℕ) (b : Bool) → ltb k (1 + 40 * p + o) ≡ b → get_or s k 0 ≡ cleared_word p k (get_or l k 0)
      go k true u = inv.words.below k (ltb-true k (1 + 40 * p + o) u)
      go k false u =
          let past = ltb-false k (1 + 40 * p + o) u in
          inv.words.above k past ∙ word_kept p k (get_or l k 0) (λ b e. omega arith)
