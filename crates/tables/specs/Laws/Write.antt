-- Where one word is written and no other differs, the words are those of the changed table.
use Rattle.std.specs.Prelude.{◌≡◌, Bool, List, length, get_or, set, ℕ, ◌+◌, ◌-◌, ◌*◌, ◌/◌, ◌%◌, ◌<◌}
use Rattle.std.proofs.Math.Path.{refl}
use Rattle.std.proofs.Common.{ap, sym, ◌∙◌, length-set, get_or-set_same, get_or-set_other, arith}
use Rattle.std.proofs.Math.Bool.{true, false, cond}
use Rattle.std.proofs.Math.Dec.{eqb}
use borrow.Author.Tests.{eqb-false}
use Rattle.std.proofs.Math.Decide.{ℕ_discrete}
use Rattle.words.specs.Kind.{word_of}
use Rattle.words.specs.Words.{first}
use Rattle.tables.specs.State.{Table}
use Rattle.tables.specs.Encode.{first_for, part_word, word_for, Is}
use Rattle.tables.specs.Laws.Encode.{at_part, canon_length, canon_at, is_canon}
use Rattle.tables.specs.Laws.Back.{Fit, is_from}

-- ── one word written ──
module _ {l : List ℕ} {t : Table} (was : Is l t) (t' : Table) (fit : Fit t') where
  sized : length l ≡ 641
  sized = canon_length (is_canon was)

  pub word_at_law : (n : ℕ) → n < 641 → get_or l n 0 ≡ word_for t n
  word_at_law n h = canon_at (is_canon was) n h ∙ ap (λ (x : Table). word_for x n) was.viewed

  pub put_word_law : (n : ℕ) → n < 641 → ((m : ℕ) → (m ≡ n → ⊥) → word_for t' m ≡ word_for t m) → Is (set l n (word_for t' n)) t'
  put_word_law n b h = is_from (set l n (word_for t' n)) t' (length-set l n _ ∙ sized) fit (λ m c. go m c (ℕ_discrete m n))
    where
      go : (m : ℕ) → m < 641 → Dec (m ≡ n) → get_or (set l n (word_for t' n)) m 0 ≡ word_for t' m
      go m c (yes z) = rw z (get_or-set_same l n (word_for t' n) 0 (omega (arith, sized)))
      go m c (no z) = get_or-set_other l n m (word_for t' n) 0 z ∙ word_at_law m c ∙ sym (h m z)

  -- word o of partition p; word 0 and the other words of the partitions are as they were
  pub put_part : (p o w : ℕ) → p < 16 → o < 40 → part_word t' p o ≡ w → word_of first (first_for t'.k) ≡ word_of first (first_for t.k)
      → ((q m : ℕ) → ((q ≡ p) × (m ≡ o) → ⊥) → part_word t' q m ≡ part_word t q m) → Is (set l (1 + 40 * p + o) w) t'
  unfolding word_for
  put_part p o w hp ho e f h =
      rw (← (at_part t' p o ho ∙ e)) (put_word_law (1 + 40 * p + o) (omega arith) other)
    where
      other : (m : ℕ) → (m ≡ 1 + 40 * p + o → ⊥) → word_for t' m ≡ word_for t m
      other m z = go (eqb m 0) refl
        where
          go : (b : Bool) → eqb m 0 ≡ b → cond b (word_of first (first_for t'.k)) (part_word t' ((m - 1) / 40) ((m - 1) % 40)) ≡ cond b (word_of first (first_for t.k)) (part_word t ((m - 1) / 40) ((m - 1) % 40))
          go true u = f
          go false u = h ((m - 1) / 40) ((m - 1) % 40) (λ w. z (omega (arith, eqb-false m 0 u, w.0, w.1)))
