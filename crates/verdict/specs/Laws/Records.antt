-- Where S3 holds, the tests that mix it with S4 tell S4.
use Rattle.std.specs.Prelude.{◌≡◌, refl, Bool, true, false, not, ◌&&◌, List, ℕ, ◌+◌, ◌<◌}
use Rattle.std.proofs.Common.{sym, ◌∙◌, arith}
use Rattle.std.proofs.lemmas.Bool.{not-true, not-false}
use Rattle.loops.specs.Loops.{all}
use Rattle.loops.specs.Laws.Every.{bool_ext, all_at, all_of}
use Rattle.words.specs.Kind.{zeroed}
use Rattle.words.specs.Words.{header, structure}
use Rattle.tables.specs.State.{K}
use Rattle.tables.specs.View.{area_word_at}
use Rattle.sound.specs.Clauses.{s3, s4_area, s4_absent, s4}
use Rattle.sound.specs.Laws.Tests.{and_says, and_true}
use Rattle.shape.specs.Records.{header_test, structure_test}
use Rattle.shape.specs.Laws.Records.{each_area}

module _ (l : List ℕ) (k : K) (p : ℕ) (clean : s3 l p ≡ true) where
  -- no zero bit is set in the header and in the structures
  record Clean : Type 0 where
    head : zeroed header (area_word_at l p 0) ≡ true
    each : (j : ℕ) → j < 4 → zeroed structure (area_word_at l p (1 + j)) ≡ true

  bits : Clean
  unfolding s3
  bits =
      let (b, _) = and_says _ _ clean in
      let (c, _) = and_says _ _ b in
      let (h, s) = and_says _ _ c in
      record { head = h; each = all_at 4 _ s }

  pub s4_told : header_test l k p && all 4 (structure_test l k p) ≡ s4 l k p
  unfolding header_test structure_test s4
  s4_told =
      bool_ext _ _
      (λ q.
      let (x, y) = and_says _ _ q in
      let at : (j : ℕ) → j < 4 → (s4_area k p (1 + j) ≡ true) × (s4_absent l k p j ≡ true) = λ j b.
      let (uv, w) = and_says (zeroed structure (area_word_at l p (1 + j)) && s4_area k p (1 + j)) (s4_absent l k p j) (all_at 4 (structure_test l k p) y j b) in
      ((and_says (zeroed structure (area_word_at l p (1 + j))) (s4_area k p (1 + j)) uv).1, w) in
      and_true _ _
      (all_of 5 (s4_area k p) (each_area (s4_area k p) (and_says (zeroed header (area_word_at l p 0)) (s4_area k p 0) x).1 (λ j b. (at j b).0)))
      (all_of 4 (s4_absent l k p) (λ j b. (at j b).1)))
      (λ q.
      let (x, y) = and_says (all 5 (s4_area k p)) (all 4 (s4_absent l k p)) q in
      and_true _ _
      (and_true _ _ bits.head (all_at 5 (s4_area k p) x 0 (omega arith)))
      (all_of 4 (structure_test l k p) (λ j b.
      and_true _ _ (and_true _ _ (bits.each j b) (all_at 5 (s4_area k p) x (1 + j) (omega arith))) (all_at 4 (s4_absent l k p) y j b))))

  -- ── S4, the header's test first ──
  module _ {h : Bool} (e : h ≡ header_test l k p) where
    pub s4_fails : not h ≡ true → false ≡ s4 l k p
    s4_fails q = sym (sym s4_told ∙ rw (← e, not-true h q) refl)

    pub s4_decides : {r : Bool} → not h ≡ false → r ≡ all 4 (structure_test l k p) → r ≡ s4 l k p
    s4_decides q z = z ∙ sym (sym s4_told ∙ rw (← e, not-false h q) refl)
