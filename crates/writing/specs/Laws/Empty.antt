-- Zero words but for word 0: base to end, and no partition.
use Rattle.std.specs.Prelude.{◌≡◌, Bool, List, get_or, set, replicate, eqb, ltb}
use Rattle.std.proofs.Math.Path.{refl, sym}
use Rattle.std.proofs.Common.{◌∙◌, length-set, get_or-set_same, get_or-set_other, ne_eqb, arith}
use Rattle.std.proofs.Math.Bool.{true, false, cond}
use Rattle.std.proofs.Math.ListN.{length-replicate}
use Rattle.std.proofs.lemmas.List.{get_or-replicate}
use Prim.Native.Nat.{ℕ, ◌^◌, ◌<◌}
use Rattle.std.proofs.Math.Decide.{ℕ_discrete}
use Rattle.words.specs.Kind.{word_of, writing}
use Rattle.words.specs.Words.{first}
use Rattle.words.specs.Laws.Kinds.{first_range}
use Rattle.tables.specs.State.{none}
use Rattle.tables.specs.Laws.State.{not_none}
use Rattle.tables.specs.Encode.{header_word, structure_word, slot_word, regions_word, first_for, part_word, word_for, Is}
use Rattle.tables.specs.Laws.Encode.{regions_none}
use Rattle.tables.specs.Laws.Back.{Fit, is_from}
use Rattle.tables.specs.Write.{empty_table}
use Rattle.tables.specs.Store.{stored}
use Rattle.tables.specs.Laws.Store.{store_word}

abbrev zeros : List ℕ
zeros = replicate 641 0

module _ (base end : ℕ) where
  part_zero : (p o : ℕ) → 0 ≡ part_word (empty_table base end) p o
  unfolding part_word header_word structure_word slot_word
  part_zero p o = go (ltb o 8) (eqb o 5) (eqb o 0) (ltb o 5)
    where
      go : (a b c d : Bool) → 0 ≡ cond a (cond b (regions_word (λ r. none)) (cond c (header_word 0 none) (cond d (structure_word none) 0))) (slot_word none false)
      go true true c d = sym regions_none
      go true false true d = refl
      go true false false true = refl
      go true false false false = refl
      go false b c d = refl

  pub empty_is : base < 2 ^ 27 → end < 2 ^ 27
      → Is (stored (replicate 641 0) 0 (writing first (first_for (empty_table base end).k))) (empty_table base end)
  unfolding word_for
  empty_is hb he =
      rw (store_word first zeros 0 refl (first_range (first_for (empty_table base end).k) hb he (omega arith)))
      (is_from (set zeros 0 w) (empty_table base end) (length-set zeros 0 w ∙ length-replicate {A = ℕ} 641 0) fit (λ n h. at n h (ℕ_discrete n 0)))
    where
      w : ℕ
      w = word_of first (first_for (empty_table base end).k)

      fit : Fit (empty_table base end)
      fit = record {
        base = hb;
        stop = he;
        current = omega arith;
        parent = λ p. omega arith;
        orphan = λ p u. refl;
        area = λ p j a u. not_none none refl u;
        slot = λ p i e u. not_none none refl u;
        closed = λ p i u. refl;
        region = λ p r i u. not_none none refl u;
      }

      at : (n : ℕ) → n < 641 → Dec (n ≡ 0) → get_or (set zeros 0 w) n 0 ≡ word_for (empty_table base end) n
      at n h (yes z) = rw z (get_or-set_same zeros 0 w 0 (rw (length-replicate {A = ℕ} 641 0) (omega arith)))
      at n h (no z) = rw (ne_eqb n 0 z) (get_or-set_other zeros 0 n w 0 z ∙ get_or-replicate {A = ℕ} 641 n 0 0 h ∙ part_zero _ _)
